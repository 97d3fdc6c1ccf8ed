-- One node of a pass over a tape.
use Rattle.std.proofs.Common.{◌≡◌, ℕ, zero, suc, ◌+◌, ◌<◌, ◌&&◌, List, [], ◌∷◌, map, length, get_or, drop, Bool, true, false, refl, ap, ◌∙◌, arith, drop-cons}
use Rattle.std.specs.Prelude.{is_some}
use Rattle.json.specs.Token.{Token}
use Rattle.json.specs.Tape.{node_token}
use Rattle.json.specs.declared.tape.Node.{Node}
use Rattle.json.specs.declared.tape.Node.TheVariants.{Object}
use Rattle.serde_json.specs.Read.{number_of}
use Rattle.oci_json_tape.specs.Fits.{fits}

pub front : (nodes : List Node) (i : ℕ) (n : Node) → i < length nodes → get_or nodes i (Object 0) ≡ n → map node_token (drop i nodes) ≡ node_token n ∷ map node_token (drop (i + 1) nodes)
front nodes i n h is =
    let next : suc i ≡ i + 1 = omega arith in
    ap (map node_token) (drop-cons nodes i (Object 0) h) ∙ ap (λ x. node_token x ∷ map node_token (drop (suc i) nodes)) is ∙ ap (λ k. node_token n ∷ map node_token (drop k nodes)) next

pub at_front : (nodes : List Node) (i room : ℕ) (n : Node) → i < length nodes → get_or nodes i (Object 0) ≡ n → fits room (map node_token (drop i nodes)) ≡ fits room (node_token n ∷ map node_token (drop (i + 1) nodes))
at_front nodes i room n h is = ap (fits room) (front nodes i n h is)

module _ (rest : List Token) (room : ℕ) where
  pub no_object : room ≡ 0 → fits room (Token.begin_object ∷ rest) ≡ false
  unfolding fits
  no_object e = ap (λ r. fits r (Token.begin_object ∷ rest)) e

  pub no_array : room ≡ 0 → fits room (Token.begin_array ∷ rest) ≡ false
  unfolding fits
  no_array e = ap (λ r. fits r (Token.begin_array ∷ rest)) e

pub an_object : (rest : List Token) (room left : ℕ) → room ≡ suc left → fits room (Token.begin_object ∷ rest) ≡ fits left rest
unfolding fits
an_object rest room left e = ap (λ r. fits r (Token.begin_object ∷ rest)) e

pub an_array : (rest : List Token) (room left : ℕ) → room ≡ suc left → fits room (Token.begin_array ∷ rest) ≡ fits left rest
unfolding fits
an_array rest room left e = ap (λ r. fits r (Token.begin_array ∷ rest)) e

pub end_object : (rest : List Token) (room : ℕ) → fits room (Token.end_object ∷ rest) ≡ fits (room + 1) rest
unfolding fits
end_object rest zero = refl
end_object rest (suc room) = let e : suc (suc room) ≡ suc room + 1 = omega arith in ap (λ r. fits r rest) e

pub end_array : (rest : List Token) (room : ℕ) → fits room (Token.end_array ∷ rest) ≡ fits (room + 1) rest
unfolding fits
end_array rest zero = refl
end_array rest (suc room) = let e : suc (suc room) ≡ suc room + 1 = omega arith in ap (λ r. fits r rest) e

pub a_number : (rest : List Token) (room : ℕ) (s : List ℕ) → fits room (Token.number s ∷ rest) ≡ (is_some (number_of s) && fits room rest)
unfolding fits
a_number rest zero s = refl
a_number rest (suc room) s = refl

pub a_key : (rest : List Token) (room : ℕ) (s : List ℕ) → fits room (Token.key s ∷ rest) ≡ fits room rest
unfolding fits
a_key rest zero s = refl
a_key rest (suc room) s = refl

pub a_string : (rest : List Token) (room : ℕ) (s : List ℕ) → fits room (Token.string s ∷ rest) ≡ fits room rest
unfolding fits
a_string rest zero s = refl
a_string rest (suc room) s = refl

pub a_boolean : (rest : List Token) (room : ℕ) (b : Bool) → fits room (Token.boolean b ∷ rest) ≡ fits room rest
unfolding fits
a_boolean rest zero b = refl
a_boolean rest (suc room) b = refl

pub a_null : (rest : List Token) (room : ℕ) → fits room (Token.null ∷ rest) ≡ fits room rest
unfolding fits
a_null rest zero = refl
a_null rest (suc room) = refl

pub at_end : (room : ℕ) → fits room [] ≡ true
unfolding fits
at_end zero = refl
at_end (suc room) = refl
