-- A text is a reference in one way at most: in a name each colon has a slash behind it, and a tag has no slash.
use Rattle.std.proofs.Common.{arith, ◌≡◌, ◌≢◌, ℕ, List, [], ◌∷◌, ◌++◌, Option, Some, None, refl, sym, ap, ◌∙◌, subst, inl, inr, append-nil}
use Rattle.std.specs.Prelude.{IfSome, ◌==◌, false}
use Rattle.std.specs.List.{list_all}
use Rattle.std.proofs.lemmas.Bool.{eqb-true}
use Rattle.std.specs.Char.{is_ascii_digit, is_ascii_alphanumeric}
use Rattle.oci_base.specs.Classes.{dash, dot, slash, colon, at_sign, is_lower, is_host_byte, is_word, is_tag_byte, IsIn, IsSomeOf, IsMark, behind}
use Rattle.oci_reference.specs.Reference.{IsSeparator, IsComponent, IsPath, IsDomainComponent, IsHost, IsDomain, IsName, IsTag, IsReference}
use Rattle.oci_base.proofs.Lacks.{Lacks, both, lacks_in, lacks_some, lacks_one, lacks_append, lacks_front, lacks_joined, cut_once}

-- each colon has a slash somewhere behind it
abbrev pub Closed : List ℕ → Type 0
Closed [] = Unit {0}
Closed (b ∷ text) = (b ≡ colon → ¬ (Lacks slash text)) × Closed text

-- a text without a colon
closed_lacking : (text : List ℕ) → Lacks colon text → Closed text
closed_lacking [] h = tt
closed_lacking (b ∷ text) h = ((λ e. absurd (h.0 e)), closed_lacking text h.1)

-- a text with a slash
not_lacking : (x y : List ℕ) → ¬ (Lacks slash (x ++ slash ∷ y))
not_lacking [] y h = h.0 refl
not_lacking (b ∷ x) y h = not_lacking x y h.1

-- a domain before a path
closed_domain : (x y : List ℕ) → Lacks colon y → Closed (x ++ slash ∷ y)
closed_domain [] y h = ((λ e. absurd (omega arith)), closed_lacking y h)
closed_domain (b ∷ x) y h = ((λ _. not_lacking x y), closed_domain x y h)

-- What the parts lack.
pub lacks_mark : (c mark : ℕ) → mark ≢ c → (text : List ℕ) → IsMark mark text → Lacks c text
lacks_mark c mark h text e = let P : List ℕ → Type 0 = λ t. Lacks c t in subst P (sym e) (h, tt)

-- dashes lack every other byte
lacks_dashes : (c : ℕ) → dash ≢ c → (text : List ℕ) → IsIn (λ b. b == dash) text → Lacks c text
lacks_dashes c h [] k = tt
lacks_dashes c h (b ∷ text) k =
    let parts = both (b == dash) (list_all (λ b. b == dash) text) k in
    let is : b ≡ dash = eqb-true b dash parts.0 in
    ((λ e. h (sym is ∙ e)), lacks_dashes c h text parts.1)

-- separators lack all but dots, underscores and dashes
pub lacks_separator : (c : ℕ) → dot ≢ c → 95 ≢ c → dash ≢ c → (text : List ℕ) → IsSeparator text → Lacks c text
lacks_separator c h1 h2 h3 text (inl e) = lacks_mark c 46 h1 text e
lacks_separator c h1 h2 h3 text (inr (inl e)) = lacks_mark c 95 h2 text e
lacks_separator c h1 h2 h3 text (inr (inr (inl e))) = let P : List ℕ → Type 0 = λ t. Lacks c t in subst P (sym e) (h2, (h2, tt))
lacks_separator c h1 h2 h3 text (inr (inr (inr s))) = lacks_dashes c h3 text s.1

-- paths lack all but lowercase letters, digits, separators and slashes
pub lacks_path : (c : ℕ) → dot ≢ c → 95 ≢ c → dash ≢ c → slash ≢ c → is_lower c ≡ false → (text : List ℕ) → IsPath text → Lacks c text
lacks_path c h1 h2 h3 h4 out text h =
    lacks_joined c (IsMark slash) IsComponent (lacks_mark c slash h4)
    (lacks_joined c IsSeparator (IsSomeOf is_lower) (lacks_separator c h1 h2 h3) (lacks_some is_lower c out)) text h

-- domain components lack all but letters, digits and dashes
lacks_domain_component : (c : ℕ) → is_ascii_alphanumeric c ≡ false → is_host_byte c ≡ false → (text : List ℕ) → IsDomainComponent text → Lacks c text
lacks_domain_component c out out' text (inl h) = lacks_one is_ascii_alphanumeric c out text h
lacks_domain_component c out out' text (inr (first, middle, last, h, k, l, e)) =
    subst (Lacks c) (sym e) (lacks_append c (first ++ middle) last
    (lacks_append c first middle (lacks_one is_ascii_alphanumeric c out first h) (lacks_in is_host_byte c out' middle k))
    (lacks_one is_ascii_alphanumeric c out last l))

-- hosts lack all but letters, digits, dashes and dots
pub lacks_host : (c : ℕ) → dot ≢ c → is_ascii_alphanumeric c ≡ false → is_host_byte c ≡ false → (text : List ℕ) → IsHost text → Lacks c text
lacks_host c h out out' text j = lacks_joined c (IsMark dot) IsDomainComponent (lacks_mark c dot h) (lacks_domain_component c out out') text j

-- domains lack all but letters, digits, dashes, dots and colons
pub lacks_domain : (c : ℕ) → dot ≢ c → is_ascii_alphanumeric c ≡ false → is_host_byte c ≡ false → is_ascii_digit c ≡ false → colon ≢ c
    → (text : List ℕ) → IsDomain text → Lacks c text
lacks_domain c h out out' out'' k text (inl j) = lacks_host c h out out' text j
lacks_domain c h out out' out'' k text (inr p) =
    subst (Lacks c) (sym p.spelled)
    (lacks_append c p.host (colon ∷ p.port) (lacks_host c h out out' p.host p.is_host) (k, lacks_some is_ascii_digit c out'' p.port p.is_port))

-- a path has no colon
path_no_colon : (text : List ℕ) → IsPath text → Lacks colon text
path_no_colon = lacks_path colon (omega arith) (omega arith) (omega arith) (omega arith) refl

-- a path has no `@`
path_no_at : (text : List ℕ) → IsPath text → Lacks at_sign text
path_no_at = lacks_path at_sign (omega arith) (omega arith) (omega arith) (omega arith) refl

-- a domain has no `@`
domain_no_at : (text : List ℕ) → IsDomain text → Lacks at_sign text
domain_no_at = lacks_domain at_sign (omega arith) refl refl refl (omega arith)

-- in a name each colon has a slash behind it
pub name_closed : (n : List ℕ) → IsName n → Closed n
name_closed n (inl path) = closed_lacking n (path_no_colon n path)
name_closed n (inr h) = subst Closed (sym h.spelled) (closed_domain h.domain h.path (path_no_colon h.path h.is_path))

-- a name has no `@`
name_no_at : (n : List ℕ) → IsName n → Lacks at_sign n
name_no_at n (inl path) = path_no_at n path
name_no_at n (inr h) =
    subst (Lacks at_sign) (sym h.spelled)
    (lacks_append at_sign h.domain (slash ∷ h.path) (domain_no_at h.domain h.is_domain) ((λ e. omega arith), path_no_at h.path h.is_path))

-- tags lack all but tag bytes
pub lacks_tag : (c : ℕ) → is_word c ≡ false → is_tag_byte c ≡ false → (g : List ℕ) → IsTag g → Lacks c g
lacks_tag c out out' g h =
    subst (Lacks c) (sym h.spelled) (lacks_append c h.first h.rest (lacks_one is_word c out h.first h.is_first) (lacks_in is_tag_byte c out' h.rest h.are_rest))

-- a tag has no slash
tag_no_slash : (g : List ℕ) → IsTag g → Lacks slash g
tag_no_slash = lacks_tag slash refl refl

-- a tag has no `@`
tag_no_at : (g : List ℕ) → IsTag g → Lacks at_sign g
tag_no_at = lacks_tag at_sign refl refl

-- a text that lacks a byte is none with that byte inside
pub not_both : (c : ℕ) (x x' y : List ℕ) → Lacks c x → x ≢ x' ++ c ∷ y
not_both c [] [] y h e = cc e
not_both c [] (b ∷ x') y h e = cc e
not_both c (b ∷ x) [] y h e = h.0 (cc e)
not_both c (b ∷ x) (b' ∷ x') y h e = not_both c x x' y h.1 (cc e)

-- two cuts before a mark that the fronts lack
cut_behind : (c : ℕ) (x x' : List ℕ) (d d' : Option (List ℕ)) → Lacks c x → Lacks c x' → x ++ behind c d ≡ x' ++ behind c d' → (x ≡ x') × (d ≡ d')
cut_behind c x x' None None h h' e = (sym (append-nil x) ∙ e ∙ append-nil x', refl)
cut_behind c x x' None (Some y) h h' e = absurd (not_both c x x' y h (sym (append-nil x) ∙ e))
cut_behind c x x' (Some y) None h h' e = absurd (not_both c x' x y h' (sym (append-nil x') ∙ sym e))
cut_behind c x x' (Some y) (Some y') h h' e = let (front, back) = cut_once c x x' y y' h h' e in (front, ap Some back)

-- two cuts of name and tag
cut_tag : (n n' : List ℕ) (g g' : Option (List ℕ)) → Closed n → Closed n' → IfSome g (Lacks slash) → IfSome g' (Lacks slash)
    → n ++ behind colon g ≡ n' ++ behind colon g' → (n ≡ n') × (g ≡ g')
cut_tag [] [] None None h h' k k' e = (refl, refl)
cut_tag [] [] None (Some x) h h' k k' e = cc e
cut_tag [] [] (Some x) None h h' k k' e = cc e
cut_tag [] [] (Some x) (Some x') h h' k k' e = (refl, ap Some (cc e))
cut_tag [] (b ∷ n') None g' h h' k k' e = cc e
cut_tag [] (b ∷ n') (Some x) g' h h' k k' e =
    let tail : x ≡ n' ++ behind colon g' = cc e in
    absurd (h'.0 (cc e) (lacks_front slash n' (behind colon g') (subst (Lacks slash) tail k)))
cut_tag (b ∷ n) [] g None h h' k k' e = cc e
cut_tag (b ∷ n) [] g (Some x) h h' k k' e =
    let tail : x ≡ n ++ behind colon g = cc e in
    absurd (h.0 (cc e) (lacks_front slash n (behind colon g) (subst (Lacks slash) tail k')))
cut_tag (b ∷ n) (b' ∷ n') g g' h h' k k' e =
    let head : b ≡ b' = cc e in
    let rest : n ++ behind colon g ≡ n' ++ behind colon g' = cc e in
    let (front, back) = cut_tag n n' g g' h.1 h'.1 k k' rest in
    (cc (head, front), back)

-- name and tag have no `@`
front_no_at : (n : List ℕ) (g : Option (List ℕ)) → IsName n → IfSome g IsTag → Lacks at_sign (n ++ behind colon g)
front_no_at n None h k = lacks_append at_sign n [] (name_no_at n h) tt
front_no_at n (Some g) h k = lacks_append at_sign n (colon ∷ g) (name_no_at n h) ((λ e. omega arith), tag_no_at g k)

-- a tag, if there is one, has no slash
tag_slash : (g : Option (List ℕ)) → IfSome g IsTag → IfSome g (Lacks slash)
tag_slash None k = tt
tag_slash (Some g) k = tag_no_slash g k

-- two cuts of name, tag and whatever stands behind an `@`
pub split_once : (n n' : List ℕ) (g g' d d' : Option (List ℕ)) → IsName n → IsName n' → IfSome g IsTag → IfSome g' IsTag
    → n ++ behind colon g ++ behind at_sign d ≡ n' ++ behind colon g' ++ behind at_sign d' → (n ≡ n') × (g ≡ g') × (d ≡ d')
split_once n n' g g' d d' h h' k k' e =
    let (front, digest) = cut_behind at_sign (n ++ behind colon g) (n' ++ behind colon g') d d' (front_no_at n g h k) (front_no_at n' g' h' k') e in
    let (name, tag) = cut_tag n n' g g' (name_closed n h) (name_closed n' h') (tag_slash g k) (tag_slash g' k') front in
    (name, tag, digest)

-- a text is a reference in one way at most
pub reading_once : (t n n' : List ℕ) (g g' d d' : Option (List ℕ)) → IsReference t n g d → IsReference t n' g' d' → (n ≡ n') × (g ≡ g') × (d ≡ d')
reading_once t n n' g g' d d' h h' = split_once n n' g g' d d' h.is_name h'.is_name h.is_tag h'.is_tag (sym h.spelled ∙ h'.spelled)
