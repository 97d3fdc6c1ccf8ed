-- `fits` over the tokens of a value: it nests no deeper, and has a meaning.
use Rattle.std.proofs.Common.{◌≡◌, ℕ, zero, suc, ◌≤◌, ◌&&◌, List, ◌++◌, Bool, true, false, true≢false, Option, Some, None, option_map, option_and_then, refl, sym, ap, ◌∙◌, arith, append_assoc}
use Rattle.std.specs.Prelude.{is_some, IsSome}
use Rattle.json.specs.Token.{Token}
use Rattle.json.specs.Json as json
use Rattle.json.specs.Tree.{json_tokens, items_tokens, members_tokens, depth, items_depth, members_depth}
use Rattle.serde_json.specs.Data.{number, array, object, item, Members, no_members, put}
use Rattle.serde_json.specs.Read.{number_of, of_json, of_items, of_members}
use Rattle.oci_json_tape.specs.Fits.{fits}

both : (a b : Bool) → (a && b) ≡ true → (a ≡ true) × (b ≡ true)
both true b e = (refl, e)
both false b e = absurd (true≢false (sym e))

some_map : {A B : Type 0} (f : A → B) (o : Option A) → is_some (option_map f o) ≡ is_some o
some_map f None = refl
some_map f (Some a) = refl

some_then : {A B : Type 0} (f : A → Option B) (o : Option A) → IsSome o → ((a : A) → IsSome (f a)) → IsSome (option_and_then f o)
some_then f None h k = absurd (true≢false (sym h))
some_then f (Some a) h k = k a

then_some : {A B : Type 0} (f : A → Option B) (o : Option A) → IsSome (option_and_then f o) → (a : A) × (o ≡ Some a) × IsSome (f a)
then_some f None h = absurd (true≢false (sym h))
then_some f (Some a) h = (a, refl, h)

is : {A : Type 0} (o : Option A) (a : A) → o ≡ Some a → IsSome o
is o a e = ap is_some e

mutual
  unfolding fits

  pub fits_gives : (j : json.Json) (room : ℕ) (rest : List Token) → fits room (json_tokens j ++ rest) ≡ true → (depth j ≤ room) × IsSome (of_json j) × (fits room rest ≡ true)
  fits_gives json.null zero rest h = (omega arith, refl, h)
  fits_gives json.null (suc room) rest h = (omega arith, refl, h)
  fits_gives (json.boolean b) zero rest h = (omega arith, refl, h)
  fits_gives (json.boolean b) (suc room) rest h = (omega arith, refl, h)
  fits_gives (json.number s) zero rest h = let p = both _ _ h in (omega arith, some_map number (number_of s) ∙ p.0, p.1)
  fits_gives (json.number s) (suc room) rest h = let p = both _ _ h in (omega arith, some_map number (number_of s) ∙ p.0, p.1)
  fits_gives (json.string s) zero rest h = (omega arith, refl, h)
  fits_gives (json.string s) (suc room) rest h = (omega arith, refl, h)
  fits_gives (json.array js) zero rest h = absurd (true≢false (sym h))
  fits_gives (json.array js) (suc room) rest h = let p = fits_gives_items js room rest h in (omega (arith, p.0), some_map array (of_items js) ∙ p.1, p.2)
  fits_gives (json.object ms) zero rest h = absurd (true≢false (sym h))
  fits_gives (json.object ms) (suc room) rest h = let p = fits_gives_members ms room rest h in (omega (arith, p.0), some_map object (of_members ms no_members) ∙ p.1 no_members, p.2)

  fits_gives_items : (js : json.Items) (room : ℕ) (rest : List Token) → fits room (items_tokens js ++ rest) ≡ true → (items_depth js ≤ room) × IsSome (of_items js) × (fits (suc room) rest ≡ true)
  fits_gives_items json.no_items zero rest h = (omega arith, refl, h)
  fits_gives_items json.no_items (suc room) rest h = (omega arith, refl, h)
  fits_gives_items (json.item j js) room rest h =
      let p = fits_gives j room (items_tokens js ++ rest) (ap (fits room) (sym (append_assoc (json_tokens j) (items_tokens js) rest)) ∙ h) in
      let q = fits_gives_items js room rest p.2 in
      (omega (arith, p.0, q.0), some_then _ (of_json j) p.1 (λ d. some_map (item d) (of_items js) ∙ q.1), q.2)

  fits_gives_members : (ms : json.Members) (room : ℕ) (rest : List Token) → fits room (members_tokens ms ++ rest) ≡ true
      → (members_depth ms ≤ room) × ((found : Members) → IsSome (of_members ms found)) × (fits (suc room) rest ≡ true)
  fits_gives_members json.no_members zero rest h = (omega arith, λ found. refl, h)
  fits_gives_members json.no_members (suc room) rest h = (omega arith, λ found. refl, h)
  fits_gives_members (json.member k j ms) zero rest h =
      let p = fits_gives j zero (members_tokens ms ++ rest) (ap (fits zero) (sym (append_assoc (json_tokens j) (members_tokens ms) rest)) ∙ h) in
      let q = fits_gives_members ms zero rest p.2 in
      (omega (arith, p.0, q.0), λ found. some_then _ (of_json j) p.1 (λ d. q.1 (put k d found)), q.2)
  fits_gives_members (json.member k j ms) (suc room) rest h =
      let p = fits_gives j (suc room) (members_tokens ms ++ rest) (ap (fits (suc room)) (sym (append_assoc (json_tokens j) (members_tokens ms) rest)) ∙ h) in
      let q = fits_gives_members ms (suc room) rest p.2 in
      (omega (arith, p.0, q.0), λ found. some_then _ (of_json j) p.1 (λ d. q.1 (put k d found)), q.2)

mutual
  unfolding fits

  pub fits_passes : (j : json.Json) (room : ℕ) (rest : List Token) → depth j ≤ room → IsSome (of_json j) → fits room (json_tokens j ++ rest) ≡ fits room rest
  fits_passes json.null zero rest h k = refl
  fits_passes json.null (suc room) rest h k = refl
  fits_passes (json.boolean b) zero rest h k = refl
  fits_passes (json.boolean b) (suc room) rest h k = refl
  fits_passes (json.number s) zero rest h k = ap (λ b. b && fits zero rest) (sym (some_map number (number_of s)) ∙ k)
  fits_passes (json.number s) (suc room) rest h k = ap (λ b. b && fits (suc room) rest) (sym (some_map number (number_of s)) ∙ k)
  fits_passes (json.string s) zero rest h k = refl
  fits_passes (json.string s) (suc room) rest h k = refl
  fits_passes (json.array js) zero rest h k = absurd (omega arith)
  fits_passes (json.array js) (suc room) rest h k = fits_passes_items js room rest (omega arith) (sym (some_map array (of_items js)) ∙ k)
  fits_passes (json.object ms) zero rest h k = absurd (omega arith)
  fits_passes (json.object ms) (suc room) rest h k = fits_passes_members ms no_members room rest (omega arith) (sym (some_map object (of_members ms no_members)) ∙ k)

  fits_passes_items : (js : json.Items) (room : ℕ) (rest : List Token) → items_depth js ≤ room → IsSome (of_items js) → fits room (items_tokens js ++ rest) ≡ fits (suc room) rest
  fits_passes_items json.no_items zero rest h k = refl
  fits_passes_items json.no_items (suc room) rest h k = refl
  fits_passes_items (json.item j js) room rest h k =
      let p = then_some _ (of_json j) k in
      ap (fits room) (append_assoc (json_tokens j) (items_tokens js) rest)
      ∙ fits_passes j room (items_tokens js ++ rest) (omega arith) (is (of_json j) p.0 p.1)
      ∙ fits_passes_items js room rest (omega arith) (sym (some_map (item p.0) (of_items js)) ∙ p.2)

  fits_passes_members : (ms : json.Members) (found : Members) (room : ℕ) (rest : List Token) → members_depth ms ≤ room → IsSome (of_members ms found) → fits room (members_tokens ms ++ rest) ≡ fits (suc room) rest
  fits_passes_members json.no_members found zero rest h k = refl
  fits_passes_members json.no_members found (suc room) rest h k = refl
  fits_passes_members (json.member n j ms) found zero rest h k =
      let p = then_some _ (of_json j) k in
      ap (fits zero) (append_assoc (json_tokens j) (members_tokens ms) rest)
      ∙ fits_passes j zero (members_tokens ms ++ rest) (omega arith) (is (of_json j) p.0 p.1)
      ∙ fits_passes_members ms (put n p.0 found) zero rest (omega arith) p.2
  fits_passes_members (json.member n j ms) found (suc room) rest h k =
      let p = then_some _ (of_json j) k in
      ap (fits (suc room)) (append_assoc (json_tokens j) (members_tokens ms) rest)
      ∙ fits_passes j (suc room) (members_tokens ms ++ rest) (omega arith) (is (of_json j) p.0 p.1)
      ∙ fits_passes_members ms (put n p.0 found) (suc room) rest (omega arith) p.2
