-- The whole text of an accepted reference is accepted as the same one.
use Rattle.std.proofs.Common.{◌≡◌, ℕ, ◌<◌, ◌||◌, ◌&&◌, ◌↔◌, Bool, true, false, not, cond, List, [], ◌∷◌, ◌++◌, Option, Some, None, length, refl, sym, ap, ◌∙◌, subst, inl, inr, append-nil, arith}
use Rattle.oci_reference.specs.declared.error.ParseError.TheVariants.{NameContainsUppercase}
use Rattle.oci_base.specs.Classes.{dot, slash, colon, at_sign, IsIn, one, more, behind, has, until, after}
use Rattle.oci_reference.specs.Reference.{IsPath, IsDomain, IsName, IsTag, IsReference}
use Rattle.oci_reference.specs.Accepted.{Accepted, parts_of, or_latest, limit}
use Rattle.oci_reference.specs.Names.{default_name, cut_name, usual_registry, with_library, is_registry, docker_io}
use Rattle.oci_reference.specs.Parts.{Parts}
use Rattle.oci_reference.specs.Whole.{whole}
use Rattle.std.specs.Prelude.{IfSome, codes, bytes_eq}
use Rattle.std.specs.Char.{is_ascii_uppercase}
use Rattle.std.specs.List.{list_any}
use Rattle.std.proofs.lemmas.Slice.Eq.{bytes_eq-Decides}
use Rattle.oci_base.proofs.Lacks.{Lacks, cut_once}
use Rattle.oci_base.proofs.Marks.{lacks_not_has, first_cut, until_is}
use Rattle.oci_reference.proofs.Outcomes.{accepted_once}
use Rattle.oci_reference.proofs.NameCuts.{is_small, in_split, path_some, domain_no_slash, path_before, name_tail, bare_path, plain_domain}

-- What a name's registry and repository make: a name that is taken for the same.
pub record Renames (names : List ℕ × List ℕ) : Type 0 where
  pub is_name : IsName (names.0 ++ slash ∷ names.1)
  pub same : default_name (names.0 ++ slash ∷ names.1) ≡ names
  pub some_registry : 0 < length names.0
  pub some_repository : 0 < length names.1

-- `docker.io` is a domain
docker_domain : IsDomain docker_io
docker_domain = inl (more (codes "docker") (dot ∷ []) (codes "io")
    (one (codes "docker") (inr (codes "d", codes "ocke", codes "r", (100, refl, refl), refl, (114, refl, refl), refl))) refl
    (inr (codes "i", [], codes "o", (105, refl, refl), refl, (111, refl, refl), refl)))

-- Docker's registry and a path with a slash
docker_name : (p : List ℕ) → IsPath p → has slash p ≡ true → Renames (docker_io, p)
docker_name p h k = record {
  is_name = inr (record { domain = docker_io; path = p; is_domain = docker_domain; is_path = h; spelled = refl });
  same = rw k refl;
  some_registry = omega arith;
  some_repository = path_some p h;
}

-- a path in `library/` is a path
library_path : (p : List ℕ) → IsPath p → IsPath (codes "library/" ++ p)
library_path p h = path_before (codes "library") p (one (codes "library") (one (codes "library") (omega arith, refl))) h

-- a path in `library/` of `docker.io` is taken for the same
library_name : (p : List ℕ) → IsPath p → Renames (docker_io, codes "library/" ++ p)
library_name p h = docker_name (codes "library/" ++ p) (library_path p h) refl

-- Docker's registry and what remains
with_docker : (p : List ℕ) → IsPath p → Renames (with_library docker_io p)
with_docker p h = go (has slash p) refl
  where
    go : (inner : Bool) → has slash p ≡ inner → Renames (with_library docker_io p)
    go true k = let is : with_library docker_io p ≡ (docker_io, p) = rw k refl in subst Renames (sym is) (docker_name p h k)
    go false k = let is : with_library docker_io p ≡ (docker_io, codes "library/" ++ p) = rw k refl in subst Renames (sym is) (library_name p h)

-- where no byte passes a test, all bytes fail it
not_any : (test : ℕ → Bool) (t : List ℕ) → list_any test t ≡ false → IsIn (λ b. not (test b)) t
not_any test [] h = refl
not_any test (b ∷ t) h = go (test b) refl h (not_any test t)
  where
    go : (now : Bool) → test b ≡ now → (now || list_any test t) ≡ false → (list_any test t ≡ false → IsIn (λ b. not (test b)) t) → IsIn (λ b. not (test b)) (b ∷ t)
    go true e k rec = cc k
    go false e k rec = rw e (rec k)

-- neither is true
or_neither : (x y : Bool) → (x || y) ≡ false → (x ≡ false) × (y ≡ false)
or_neither true y h = cc h
or_neither false y h = (refl, h)

-- a lowercase name that does not begin with a registry is a path
unregistered : (n x y : List ℕ) → IsName n → Lacks slash x → n ≡ x ++ slash ∷ y → is_registry x ≡ false → list_any is_ascii_uppercase n ≡ false → IsPath n
unregistered n x y (inl path) l e h k = path
unregistered n x y (inr named) l e h k =
    let cut = cut_once slash named.domain x named.path y (domain_no_slash named.domain named.is_domain) l (sym named.spelled ∙ e) in
    let plain = or_neither (has dot x) (has colon x) (or_neither (has dot x || has colon x) (bytes_eq x (codes "localhost")) h).0 in
    let no_dot = subst (Lacks dot) (sym cut.0) (lacks_not_has dot x plain.0) in
    let no_colon = subst (Lacks colon) (sym cut.0) (lacks_not_has colon x plain.1) in
    let small = (in_split is_small named.domain (slash ∷ named.path) (subst (IsIn is_small) named.spelled (not_any is_ascii_uppercase n k))).0 in
    subst IsPath (sym named.spelled)
    (path_before named.domain named.path (plain_domain named.domain named.is_domain no_dot no_colon small) named.is_path)

-- a choice by two truths
both_true : {A : Type 0} (a b : Bool) (p q : A) → a ≡ true → b ≡ true → cond (a && b) p q ≡ p
both_true a b p q h k = rw (h, k) refl

-- a choice by a falsehood
second_false : {A : Type 0} (a b : Bool) (p q : A) → b ≡ false → cond (a && b) p q ≡ q
second_false true b p q k = rw k refl
second_false false b p q k = refl

-- registry and repository, by how the name is cut
by_cut : (n x y : List ℕ) → cut_name n ≡ (x, y) → default_name n ≡ with_library (usual_registry x) y
by_cut n x y e = ap (λ z. with_library (usual_registry z.0) z.1) e

-- a registry is not empty
registry_some : (x : List ℕ) → is_registry x ≡ true → 0 < length x
registry_some [] h = cc h
registry_some (b ∷ x) h = omega arith

-- a name that begins with a registry
registered : (n x y : List ℕ) → IsName n → n ≡ x ++ slash ∷ y → IsPath y → is_registry x ≡ true → cut_name n ≡ (x, y)
    → (index docker : Bool) → bytes_eq x (codes "index.docker.io") ≡ index → bytes_eq x docker_io ≡ docker → Renames (default_name n)
registered n x y h e p r cut true docker i d =
    let usual : usual_registry x ≡ docker_io = rw i refl in
    subst Renames (sym (by_cut n x y cut ∙ ap (λ z. with_library z y) usual)) (with_docker y p)
registered n x y h e p r cut false true i d =
    let usual : usual_registry x ≡ docker_io = (let is : usual_registry x ≡ x = rw i refl in is) ∙ (bytes_eq-Decides x docker_io).0 d in
    subst Renames (sym (by_cut n x y cut ∙ ap (λ z. with_library z y) usual)) (with_docker y p)
registered n x y h e p r cut false false i d =
    let usual : usual_registry x ≡ x = rw i refl in
    let is : default_name n ≡ (x, y) = by_cut n x y cut ∙ ap (λ z. with_library z y) usual ∙ (let other : with_library x y ≡ (x, y) = rw d refl in other) in
    let names : Renames (x, y) = record {
      is_name = subst IsName e h;
      same = ap default_name (sym e) ∙ is;
      some_registry = registry_some x r;
      some_repository = path_some y p;
    } in
    subst Renames (sym is) names

-- the registry and repository of a name with a lowercase repository are taken for the same
pub renames : (n : List ℕ) → IsName n → list_any is_ascii_uppercase (default_name n).1 ≡ false → Renames (default_name n)
renames n h lower = go (has slash n) refl
  where
    front : (x y : List ℕ) → Lacks slash x → n ≡ x ++ slash ∷ y → has slash n ≡ true → (registry : Bool) → is_registry x ≡ registry → Renames (default_name n)
    front x y l e k true r =
        let until_x : until slash n ≡ x = ap (until slash) e ∙ (until_is slash x y l).0 in
        let after_y : after slash n ≡ y = ap (after slash) e ∙ (until_is slash x y l).1 in
        let cut : cut_name n ≡ (x, y) =
        both_true (has slash n) (is_registry (until slash n)) (until slash n, after slash n) (docker_io, n) k (ap is_registry until_x ∙ r)
        ∙ ap (λ z. (z, after slash n)) until_x ∙ ap (λ z. (x, z)) after_y in
        registered n x y h e (name_tail n x y h l e) r cut (bytes_eq x (codes "index.docker.io")) (bytes_eq x docker_io) refl refl
    front x y l e k false r =
        let until_x : until slash n ≡ x = ap (until slash) e ∙ (until_is slash x y l).0 in
        let cut : cut_name n ≡ (docker_io, n) =
        second_false (has slash n) (is_registry (until slash n)) (until slash n, after slash n) (docker_io, n) (ap is_registry until_x ∙ r) in
        let is : default_name n ≡ (docker_io, n) = by_cut n docker_io n cut ∙ (let kept : with_library docker_io n ≡ (docker_io, n) = rw k refl in kept) in
        let small : list_any is_ascii_uppercase n ≡ false = subst (λ z. list_any is_ascii_uppercase z.1 ≡ false) is lower in
        subst Renames (sym is) (docker_name n (unregistered n x y h l e r small) k)

    go : (inner : Bool) → has slash n ≡ inner → Renames (default_name n)
    go true k = let (x, y, l, e) = first_cut slash n k in front x y l e k (is_registry x) refl
    go false k =
        let cut : cut_name n ≡ (docker_io, n) = ap (λ z. cond (z && is_registry (until slash n)) (until slash n, after slash n) (docker_io, n)) k in
        subst Renames (sym (by_cut n docker_io n cut)) (with_docker n (bare_path n h (lacks_not_has slash n k)))

-- the whole text, where registry and repository are there
pub whole_is : (x y : List ℕ) (g d m : Option (List ℕ)) → 0 < length x → 0 < length y
    → whole (record { registry = x; repository = y; tag = g; digest = d; mirror = m }) ≡ (x ++ slash ∷ y) ++ behind colon g ++ behind at_sign d
whole_is [] y g d m h k = absurd (omega arith)
whole_is (b ∷ x) [] g d m h k = absurd (omega arith)
whole_is (b ∷ x) (c ∷ y) None None m h k = simp append-nil
whole_is (b ∷ x) (c ∷ y) (Some g) None m h k = simp append-nil
whole_is (b ∷ x) (c ∷ y) None (Some d) m h k = ap (λ z. z ++ at_sign ∷ d) (sym (append-nil ((b ∷ x) ++ slash ∷ c ∷ y)))
whole_is (b ∷ x) (c ∷ y) (Some g) (Some d) m h k = refl

-- `latest` is a tag
latest_tag : IsTag (codes "latest")
latest_tag = record { first = codes "l"; rest = codes "atest"; is_first = (108, refl, refl); are_rest = refl; short = omega arith; spelled = refl }

-- the tag, given or not, is a tag
latest_is_tag : (g d : Option (List ℕ)) → IfSome g IsTag → IfSome (or_latest g d) IsTag
latest_is_tag None None h = latest_tag
latest_is_tag None (Some d) h = tt
latest_is_tag (Some g) d h = h

-- a tag that is given is no other
latest_twice : (g d : Option (List ℕ)) → or_latest (or_latest g d) d ≡ or_latest g d
latest_twice None None = refl
latest_twice None (Some d) = refl
latest_twice (Some g) d = refl

-- a repository within the limits has no uppercase letter
pub limit_lower : (r : List ℕ) (d : Option (List ℕ)) → limit r d ≡ None → list_any is_ascii_uppercase r ≡ false
limit_lower r d h = go (list_any is_ascii_uppercase r) refl
  where
    go : (upper : Bool) → list_any is_ascii_uppercase r ≡ upper → upper ≡ false
    go true e = let clash : Some NameContainsUppercase ≡ None = sym (let is : limit r d ≡ Some NameContainsUppercase = rw e refl in is) ∙ h in cc clash
    go false e = refl

-- the parts depend on registry and repository alone
same_parts : (n : List ℕ) (g d : Option (List ℕ)) (w : List ℕ) → default_name w ≡ default_name n → parts_of n g d ≡ parts_of w (or_latest g d) d
same_parts n g d w e = rw (e, latest_twice g d) refl

-- the whole text of the parts of a reference is accepted as these parts
again_parts : (n : List ℕ) (g d : Option (List ℕ)) (t : List ℕ) → IsReference t n g d → limit (default_name n).1 d ≡ None
    → Accepted (whole (parts_of n g d)) (parts_of n g d)
again_parts n g d t r h =
    let names = renames n r.is_name (limit_lower (default_name n).1 d h) in
    let w = (default_name n).0 ++ slash ∷ (default_name n).1 in record {
      name = w;
      tag = or_latest g d;
      digest = d;
      reading = record {
        spelled = whole_is (default_name n).0 (default_name n).1 (or_latest g d) d None names.some_registry names.some_repository;
        is_name = names.is_name;
        is_tag = latest_is_tag g d r.is_tag;
        is_digest = r.is_digest;
      };
      within = subst (λ z. limit z.1 d ≡ None) (sym names.same) h;
      are = same_parts n g d w names.same;
    }

-- the whole text of an accepted reference is accepted as the same one
pub again : (t : List ℕ) (r : Parts) → Accepted t r → Accepted (whole r) r
again t r a = subst (λ z. Accepted (whole z) z) (sym a.are) (again_parts a.name a.tag a.digest t a.reading a.within)

-- accepted references are equal exactly if their whole texts are
pub apart : (t t' : List ℕ) (r r' : Parts) → Accepted t r → Accepted t' r' → (r ≡ r') ↔ (whole r ≡ whole r')
apart t t' r r' a a' = (
  (λ e. ap whole e),
  (λ e. accepted_once (whole r') r r' (subst (λ z. Accepted z r) e (again t r a)) (again t' r' a')),
)
