-- Lines by their fields: what the fields of a line make of it, and that a line says one thing.
use Rattle.std.proofs.Common.{◌≡◌, ℕ, zero, suc, ◌||◌, Bool, true, false, List, [], ◌∷◌, Some, refl, sym, ap, ◌∙◌, subst, arith}
use Rattle.std.specs.Prelude.{IsTrue, ◌↔◌, bytes_eq, slice_get, unwrap_or}
use Rattle.std.specs.List.{list_any, Contains}
use Rattle.std.proofs.lemmas.Slice.Eq.{bytes_eq-Decides}
use Rattle.oci_accounts.specs.Ids.{IsId}
use Rattle.oci_accounts.specs.Lines.{fields_of, names_of, IsName, IsMember, IsUserLine, IsGroupLine, NameAt, IdAt, members_in}
use Rattle.oci_accounts.proofs.Digits.{same_id}

-- the members of a list by a test of equality
any_from : (name : List ℕ) (parts : List (List ℕ)) → list_any (bytes_eq name) parts ≡ true → Contains parts name
any_from name [] h = cc h
any_from name (p ∷ parts) h = go (bytes_eq name p) refl h (any_from name parts)
  where
    go : (same : Bool) → bytes_eq name p ≡ same → (same || list_any (bytes_eq name) parts) ≡ true → (list_any (bytes_eq name) parts ≡ true → Contains parts name) → Contains (p ∷ parts) name
    go true e k rec = (0, omega arith, sym ((bytes_eq-Decides name p).0 e))
    go false e k rec = let found = rec k in (suc found.0, omega (arith, found.1), found.2)

any_to : (name : List ℕ) (parts : List (List ℕ)) → Contains parts name → list_any (bytes_eq name) parts ≡ true
any_to name [] (i, lt, is) = absurd (omega arith)
any_to name (p ∷ parts) (zero, lt, is) = rw ((bytes_eq-Decides name p).1 (sym is)) refl
any_to name (p ∷ parts) (suc i, lt, is) = or-true (bytes_eq name p) (list_any (bytes_eq name) parts) (any_to name parts (i, omega arith, is))
  where
    or-true : (x y : Bool) → y ≡ true → (x || y) ≡ true
    or-true true y h = refl
    or-true false y h = h

pub member_told : (members name : List ℕ) (r : Bool) → r ≡ list_any (bytes_eq name) (names_of members) → IsName name → IsTrue r ↔ IsMember members name
member_told members name r e n = ((λ is. (n, any_from name (names_of members) (sym e ∙ is))), (λ h. e ∙ any_to name (names_of members) h.1))

-- a list that has the fields of a user, or of a group
four : (fs : List (List ℕ)) (a c d : List ℕ) → slice_get fs 0 ≡ Some a → slice_get fs 2 ≡ Some c → slice_get fs 3 ≡ Some d → (b : List ℕ) × (rest : List (List ℕ)) × (fs ≡ a ∷ b ∷ c ∷ d ∷ rest)
four [] a c d p q r = cc
four (w ∷ []) a c d p q r = cc
four (w ∷ x ∷ []) a c d p q r = cc
four (w ∷ x ∷ y ∷ []) a c d p q r = cc
four (w ∷ x ∷ y ∷ z ∷ rest) a c d p q r = (x, rest, cc)

three : (fs : List (List ℕ)) (a c : List ℕ) → slice_get fs 0 ≡ Some a → slice_get fs 2 ≡ Some c → (b : List ℕ) × (rest : List (List ℕ)) × (fs ≡ a ∷ b ∷ c ∷ rest)
three [] a c p q = cc
three (w ∷ []) a c p q = cc
three (w ∷ x ∷ []) a c p q = cc
three (w ∷ x ∷ y ∷ rest) a c p q = (x, rest, cc)

pub user_from : (line name : List ℕ) (uid gid : ℕ) → NameAt line 0 name → IdAt line 2 uid → IdAt line 3 gid → IsUserLine line name uid gid
user_from line name uid gid n u g =
    let (password, rest, e) = four (fields_of line) name u.text g.text n.is_there u.is_there g.is_there in
    record { password = password; user = u.text; group = g.text; rest = rest; spelled = e; is_name = n.is_name; is_user = u.is_id; is_group = g.is_id }

pub user_id : (line name : List ℕ) (uid gid : ℕ) → IsUserLine line name uid gid → IdAt line 2 uid
user_id line name uid gid h = record { text = h.user; is_there = ap (λ fs. slice_get fs 2) h.spelled; is_id = h.is_user }

pub user_group : (line name : List ℕ) (uid gid : ℕ) → IsUserLine line name uid gid → IdAt line 3 gid
user_group line name uid gid h = record { text = h.group; is_there = ap (λ fs. slice_get fs 3) h.spelled; is_id = h.is_group }

-- the fields of a group are those behind its ID
pub group_from : (line name members : List ℕ) (gid : ℕ) → NameAt line 0 name → IdAt line 2 gid → members ≡ unwrap_or (slice_get (fields_of line) 3) []
    → (rest : List (List ℕ)) × IsGroupLine line name gid rest × (members ≡ members_in rest)
group_from line name members gid n g m =
    let (password, rest, s) = three (fields_of line) name g.text n.is_there g.is_there in (
      rest,
      record { password = password; group = g.text; spelled = s; is_name = n.is_name; is_group = g.is_id },
      m ∙ ap (λ fs. unwrap_or (slice_get fs 3) []) s ∙ first rest,
    )
  where
    first : (rest : List (List ℕ)) → unwrap_or (slice_get rest 0) [] ≡ members_in rest
    first [] = refl
    first (x ∷ rest) = refl

pub group_id : (line name : List ℕ) (gid : ℕ) (rest : List (List ℕ)) → IsGroupLine line name gid rest → IdAt line 2 gid
group_id line name gid rest h = record { text = h.group; is_there = ap (λ fs. slice_get fs 2) h.spelled; is_id = h.is_group }

-- a line is for one user
pub same_user : (line m n : List ℕ) (u v g h : ℕ) → IsUserLine line m u g → IsUserLine line n v h → m ≡ n
same_user line m n u v g h a b = let e = sym a.spelled ∙ b.spelled in cc

pub same_uid : (line m n : List ℕ) (u v g h : ℕ) → IsUserLine line m u g → IsUserLine line n v h → u ≡ v
same_uid line m n u v g h a b =
    let e = sym a.spelled ∙ b.spelled in
    let same : b.user ≡ a.user = cc in
    same_id a.user u v a.is_user (subst (λ t. IsId t v) same b.is_user)

-- a line is for one group
pub same_group : (line m n : List ℕ) (g h : ℕ) (p q : List (List ℕ)) → IsGroupLine line m g p → IsGroupLine line n h q → m ≡ n
same_group line m n g h p q a b = let e = sym a.spelled ∙ b.spelled in cc

pub same_rest : (line m n : List ℕ) (g h : ℕ) (p q : List (List ℕ)) → IsGroupLine line m g p → IsGroupLine line n h q → p ≡ q
same_rest line m n g h p q a b = let e = sym a.spelled ∙ b.spelled in cc
