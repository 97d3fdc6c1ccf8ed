-- What each state of the scanner says of the text so far, kept by each step.
use Rattle.std.proofs.Common.{◌≡◌, ℕ, ◌+◌, ◌<◌, ◌≤◌, ◌||◌, ◌&&◌, ◌⊎◌, Bool, true, false, List, [], ◌∷◌, ◌++◌, Option, Some, None, length, refl, sym, ap, ◌∙◌, subst, inl, inr, append_assoc, length-append, arith}
use Rattle.std.specs.Prelude.{◌==◌, nat_lt}
use Rattle.std.specs.Char.{is_ascii_digit, is_ascii_alphanumeric, is_ascii_alphabetic, is_ascii_hexdigit}
use Rattle.std.specs.List.{fold}
use Rattle.std.proofs.lemmas.Bool.{eqb-true, ltb-true}
use Rattle.oci_reference.specs.declared.scanner.domain.DomainState.{DomainState}
use Rattle.oci_reference.specs.declared.scanner.domain.DomainState.TheVariants.{BeforeLabel, InLabel, InHyphens, AfterColon, InPort, NoDomain}
use Rattle.oci_reference.specs.declared.scanner.path.PathState.{PathState}
use Rattle.oci_reference.specs.declared.scanner.path.PathState.TheVariants.{BeforeRun, InRun, AfterUnderscore, InDashes, NoPath}
use Rattle.oci_reference.specs.declared.scanner.tag.TagState.{TagState}
use Rattle.oci_reference.specs.declared.scanner.tag.TagState.TheVariants.{BeforeTag, InTag, NoTag}
use Rattle.oci_reference.specs.declared.scanner.digest.DigestState.{DigestState}
use Rattle.oci_reference.specs.declared.scanner.digest.DigestState.TheVariants.{BeforeWord, InWord, InDigits, NoDigest}
use Rattle.oci_reference.specs.declared.scanner.Scanner.{Scanner}
use Rattle.oci_base.specs.Classes.{dash, dot, slash, colon, at_sign, underscore, is_lower, is_host_byte, is_word, is_tag_byte, is_joint, IsIn, IsSomeOf, IsOneOf, IsJoined, one, more}
use Rattle.oci_reference.specs.Reference.{IsDomainComponent, IsHost, HasPort, IsDomain, IsName, IsWord, IsReference}
use Rattle.oci_reference.specs.Scanner.{domain_next, ends_domain, path_next, ends_name, tag_next, ends_tag, digest_next, start, step}
use Rattle.oci_base.proofs.Lacks.{both}
use Rattle.oci_base.proofs.Runs.{by_test, run_describes, in_cons, in_push, some_first}
use Rattle.oci_reference.proofs.Grows.{mark_is, dash_host, joined_grow, host_grow, port_push, name_push, name_more, name_slash, tag_first, tag_push, word_first, word_push, named, tagged, tagged_spelled}

-- one of the two is true
either : (a b : Bool) → (a || b) ≡ true → (a ≡ true) ⊎ (b ≡ true)
either true b h = inl refl
either false b h = inr h

-- The domain.
abbrev pub DomainSays : DomainState → List ℕ → Type 0
DomainSays BeforeLabel t = (x : List ℕ) → IsDomainComponent x → IsHost (t ++ x)
DomainSays InLabel t = IsHost t
DomainSays InHyphens t = (x : List ℕ) (b : ℕ) → IsIn is_host_byte x → is_ascii_alphanumeric b ≡ true → IsHost (t ++ (x ++ b ∷ []))
DomainSays AfterColon t = (x : List ℕ) → IsSomeOf is_ascii_digit x → HasPort (t ++ x)
DomainSays InPort t = HasPort t
DomainSays NoDomain t = Unit {0}

-- a step keeps what the domain says
domain_keeps : (d : DomainState) (t : List ℕ) (b : ℕ) → DomainSays d t → DomainSays (domain_next d b) (t ++ b ∷ [])
domain_keeps BeforeLabel t b d =
    let P : DomainState → Type 0 = λ s. DomainSays s (t ++ b ∷ []) in
    by_test P (is_ascii_alphanumeric b) _ _ (λ h. d (b ∷ []) (inl (b, h, refl))) (λ _. tt)
domain_keeps InLabel t b d =
    let P : DomainState → Type 0 = λ s. DomainSays s (t ++ b ∷ []) in
    by_test P (is_ascii_alphanumeric b) _ _ (λ h. host_grow [] b refl h t d)
    (λ _. by_test P (b == dash) _ _
    (λ h x c k l. subst IsHost (sym (append_assoc t (b ∷ []) (x ++ c ∷ []))) (host_grow (b ∷ x) c (in_cons is_host_byte b x (dash_host b h) k) l t d))
    (λ _. by_test P (b == dot) _ _
    (λ h x c. more t (b ∷ []) x d (mark_is dot b h) c)
    (λ _. by_test P (b == colon) _ _
    (λ h x k. record { host = t; port = x; is_host = d; is_port = k; spelled = ap (λ z. t ++ z ++ x) (mark_is colon b h) ∙ append_assoc t (colon ∷ []) x })
    (λ _. tt))))
domain_keeps InHyphens t b d =
    let P : DomainState → Type 0 = λ s. DomainSays s (t ++ b ∷ []) in
    by_test P (is_ascii_alphanumeric b) _ _ (λ h. d [] b refl h)
    (λ _. by_test P (b == dash) _ _
    (λ h x c k l. subst IsHost (sym (append_assoc t (b ∷ []) (x ++ c ∷ []))) (d (b ∷ x) c (in_cons is_host_byte b x (dash_host b h) k) l))
    (λ _. tt))
domain_keeps AfterColon t b d =
    let P : DomainState → Type 0 = λ s. DomainSays s (t ++ b ∷ []) in
    by_test P (is_ascii_digit b) _ _ (λ h. d (b ∷ []) (some_first is_ascii_digit b h)) (λ _. tt)
domain_keeps InPort t b d =
    let P : DomainState → Type 0 = λ s. DomainSays s (t ++ b ∷ []) in
    by_test P (is_ascii_digit b) _ _ (λ h. port_push t b h d) (λ _. tt)
domain_keeps NoDomain t b d = tt

-- a whole domain is a domain
domain_whole : (d : DomainState) (t : List ℕ) → DomainSays d t → ends_domain d ≡ true → IsDomain t
domain_whole BeforeLabel t d e = cc e
domain_whole InLabel t d e = inl d
domain_whole InHyphens t d e = cc e
domain_whole AfterColon t d e = cc e
domain_whole InPort t d e = inr d
domain_whole NoDomain t d e = cc e

-- The name.
abbrev pub PathSays : PathState → List ℕ → Type 0
PathSays BeforeRun t = (r : List ℕ) → IsSomeOf is_lower r → IsName (t ++ r)
PathSays InRun t = IsName t
PathSays AfterUnderscore t = ((r : List ℕ) → IsSomeOf is_lower r → IsName (t ++ r)) × ((r : List ℕ) → IsSomeOf is_lower r → IsName (t ++ underscore ∷ r))
PathSays InDashes t = (x r : List ℕ) → IsIn (λ b. b == dash) x → IsSomeOf is_lower r → IsName (t ++ (x ++ r))
PathSays NoPath t = Unit {0}

-- what a separator's first byte begins
after_mark : (t : List ℕ) (b c : ℕ) (r : List ℕ) → (b == c) ≡ true → IsName (t ++ c ∷ r) → IsName ((t ++ b ∷ []) ++ r)
after_mark t b c r h n = subst IsName (ap (λ z. t ++ z ∷ r) (sym (eqb-true b c h)) ∙ sym (append_assoc t (b ∷ []) r)) n

-- a step keeps what the path says
pub path_keeps : (p : PathState) (t : List ℕ) (b : ℕ) → PathSays p t → PathSays (path_next p b) (t ++ b ∷ [])
path_keeps BeforeRun t b d =
    let P : PathState → Type 0 = λ s. PathSays s (t ++ b ∷ []) in
    by_test P (is_lower b) _ _ (λ h. d (b ∷ []) (some_first is_lower b h)) (λ _. tt)
path_keeps InRun t b d =
    let P : PathState → Type 0 = λ s. PathSays s (t ++ b ∷ []) in
    by_test P (is_lower b) _ _ (λ h. name_push b h t d)
    (λ _. by_test P ((b == dot) || (b == slash)) _ _ (λ h. joint (either (b == dot) (b == slash) h))
    (λ _. by_test P (b == underscore) _ _
    (λ h. (
      (λ r k. after_mark t b underscore r h (name_more (underscore ∷ []) r (inr (inl refl)) k t d)),
      (λ r k. after_mark t b underscore (underscore ∷ r) h (name_more (underscore ∷ underscore ∷ []) r (inr (inr (inl refl))) k t d)),
    ))
    (λ _. by_test P (b == dash) _ _
    (λ h x r k l. subst IsName (sym (append_assoc t (b ∷ []) (x ++ r)))
    (name_more (b ∷ x) r (inr (inr (inr (omega arith, in_cons (λ b. b == dash) b x h k)))) l t d))
    (λ _. tt))))
  where
    joint : ((b == dot) ≡ true) ⊎ ((b == slash) ≡ true) → PathSays BeforeRun (t ++ b ∷ [])
    joint (inl h) r k = after_mark t b dot r h (name_more (dot ∷ []) r (inl refl) k t d)
    joint (inr h) r k = after_mark t b slash r h (name_slash r k t d)
path_keeps AfterUnderscore t b d =
    let P : PathState → Type 0 = λ s. PathSays s (t ++ b ∷ []) in
    by_test P (is_lower b) _ _ (λ h. d.0 (b ∷ []) (some_first is_lower b h))
    (λ _. by_test P (b == underscore) _ _ (λ h r k. after_mark t b underscore r h (d.1 r k)) (λ _. tt))
path_keeps InDashes t b d =
    let P : PathState → Type 0 = λ s. PathSays s (t ++ b ∷ []) in
    by_test P (is_lower b) _ _ (λ h. d [] (b ∷ []) refl (some_first is_lower b h))
    (λ _. by_test P (b == dash) _ _
    (λ h x r k l. subst IsName (sym (append_assoc t (b ∷ []) (x ++ r))) (d (b ∷ x) r (in_cons (λ b. b == dash) b x h k) l))
    (λ _. tt))
path_keeps NoPath t b d = tt

-- a whole path is a name
pub path_whole : (p : PathState) (t : List ℕ) → PathSays p t → ends_name p ≡ true → IsName t
path_whole BeforeRun t d e = cc e
path_whole InRun t d e = d
path_whole AfterUnderscore t d e = cc e
path_whole InDashes t d e = cc e
path_whole NoPath t d e = cc e

-- a domain and a slash
path_begun : (t : List ℕ) → IsDomain t → (b : ℕ) → (b == slash) ≡ true → PathSays BeforeRun (t ++ b ∷ [])
path_begun t d b h r k = after_mark t b slash r h (inr (record { domain = t; path = r; is_domain = d; is_path = one r (one r k); spelled = refl }))

-- The tag.
abbrev pub TagSays : TagState → List ℕ → Type 0
TagSays BeforeTag t = (n : List ℕ) × IsName n × (t ≡ n ++ colon ∷ [])
TagSays (InTag k) t = (n g : List ℕ) × IsReference t n (Some g) None × (length g ≡ k)
TagSays NoTag t = Unit {0}

-- a step keeps what the tag says
tag_keeps : (g : TagState) (t : List ℕ) (b : ℕ) → TagSays g t → TagSays (tag_next g b) (t ++ b ∷ [])
tag_keeps BeforeTag t b d =
    let P : TagState → Type 0 = λ s. TagSays s (t ++ b ∷ []) in
    let (n, name, e) = d in
    by_test P (is_word b) _ _
    (λ h. (n, b ∷ [], tagged (t ++ b ∷ []) n (b ∷ []) (ap (λ z. z ++ b ∷ []) e ∙ append_assoc n (colon ∷ []) (b ∷ [])) name (tag_first b h), omega arith))
    (λ _. tt)
tag_keeps (InTag k) t b d =
    let P : TagState → Type 0 = λ s. TagSays s (t ++ b ∷ []) in
    let (n, g, r, l) = d in
    by_test P (is_tag_byte b && nat_lt k 128) _ _
    (λ h.
    let parts = both (is_tag_byte b) (nat_lt k 128) h in
    let small : k < 128 = ltb-true k 128 parts.1 in (
      n,
      g ++ b ∷ [],
      tagged (t ++ b ∷ []) n (g ++ b ∷ []) (ap (λ z. z ++ b ∷ []) (tagged_spelled t n g r) ∙ append_assoc n (colon ∷ g) (b ∷ [])) r.is_name
          (tag_push g b r.is_tag parts.0 (omega arith)),
      omega (arith, length-append g (b ∷ [])),
    ))
    (λ _. tt)
tag_keeps NoTag t b d = tt

-- a colon behind a name begins a tag
tag_begun : (t : List ℕ) → IsName t → (b : ℕ) → (b == colon) ≡ true → TagSays BeforeTag (t ++ b ∷ [])
tag_begun t n b h = (t, n, ap (λ z. t ++ z) (mark_is colon b h))

-- The digest.
abbrev IsWords : List ℕ → Type 0
IsWords x = IsJoined (IsOneOf is_joint) IsWord x

-- a reference without digest, and what came behind its `@`
abbrev pub Behind : List ℕ → (List ℕ → Type 0) → Type 0
Behind t P = (u n : List ℕ) × (g : Option (List ℕ)) × (x : List ℕ) × IsReference u n g None × (t ≡ u ++ at_sign ∷ x) × P x

-- words, a colon, and at least so many digits
abbrev pub HasDigits : ℕ → List ℕ → Type 0
HasDigits k x = (a h : List ℕ) × IsWords a × IsIn is_ascii_hexdigit h × (k ≤ length h) × (x ≡ a ++ colon ∷ h)

-- what a state of the digest says of the text so far
abbrev pub DigestSays : DigestState → List ℕ → Type 0
DigestSays BeforeWord t = Behind t (λ x. (w : List ℕ) → IsWord w → IsWords (x ++ w))
DigestSays InWord t = Behind t IsWords
DigestSays (InDigits k) t = Behind t (HasDigits k)
DigestSays NoDigest t = Unit {0}

-- what stands behind the `@` grows by a byte
behind_push : (P Q : List ℕ → Type 0) (t : List ℕ) (b : ℕ) → ((x : List ℕ) → P x → Q (x ++ b ∷ [])) → Behind t P → Behind (t ++ b ∷ []) Q
behind_push P Q t b pushes (u, n, g, x, r, e, p) =
    (u, n, g, x ++ b ∷ [], r, ap (λ z. z ++ b ∷ []) e ∙ append_assoc u (at_sign ∷ x) (b ∷ []), pushes x p)

-- the digits grow by one
digits_push : (k m : ℕ) (b : ℕ) → is_ascii_hexdigit b ≡ true → m ≤ k + 1 → (x : List ℕ) → HasDigits k x → HasDigits m (x ++ b ∷ [])
digits_push k m b hex le x (a, h, w, i, l, e) = (
  a,
  h ++ b ∷ [],
  w,
  in_push is_ascii_hexdigit h b i hex,
  omega (arith, length-append h (b ∷ [])),
  ap (λ z. z ++ b ∷ []) e ∙ append_assoc a (colon ∷ h) (b ∷ []),
)

-- a step keeps what the digest says
digest_keeps : (s : DigestState) (t : List ℕ) (b : ℕ) → DigestSays s t → DigestSays (digest_next s b) (t ++ b ∷ [])
digest_keeps BeforeWord t b d =
    let P : DigestState → Type 0 = λ s. DigestSays s (t ++ b ∷ []) in
    by_test P (is_ascii_alphabetic b) _ _ (λ h. behind_push _ _ t b (λ x p. p (b ∷ []) (word_first b h)) d) (λ _. tt)
digest_keeps InWord t b d =
    let P : DigestState → Type 0 = λ s. DigestSays s (t ++ b ∷ []) in
    by_test P (is_ascii_alphanumeric b) _ _
    (λ h. behind_push _ _ t b (joined_grow (IsOneOf is_joint) IsWord (b ∷ []) (word_push b h)) d)
    (λ _. by_test P (is_joint b) _ _ (λ h. behind_push _ _ t b (λ x j w k. more x (b ∷ []) w j (b, h, refl) k) d)
    (λ _. by_test P (b == colon) _ _
    (λ h. behind_push _ _ t b (λ x j. (x, [], j, refl, omega arith, ap (λ z. x ++ z) (mark_is colon b h))) d)
    (λ _. tt)))
digest_keeps (InDigits k) t b d =
    let P : DigestState → Type 0 = λ s. DigestSays s (t ++ b ∷ []) in
    by_test P (is_ascii_hexdigit b) _ _
    (λ h. by_test P (nat_lt k 32) _ _
    (λ _. behind_push (HasDigits k) (HasDigits (k + 1)) t b (digits_push k (k + 1) b h (omega arith)) d)
    (λ _. behind_push (HasDigits k) (HasDigits k) t b (digits_push k k b h (omega arith)) d))
    (λ _. tt)
digest_keeps NoDigest t b d = tt

-- an `@` behind a reference begins a digest
digest_begun : (t n : List ℕ) (g : Option (List ℕ)) → IsReference t n g None → (b : ℕ) → (b == at_sign) ≡ true → DigestSays BeforeWord (t ++ b ∷ [])
digest_begun t n g r b h = (t, n, g, [], r, ap (λ z. t ++ z) (mark_is at_sign b h), (λ w k. one w k))

-- All of it.
pub record Says (s : Scanner) (t : List ℕ) : Type 0 where
  pub domain : DomainSays s.domain t
  pub path : PathSays s.path t
  pub tag : TagSays s.tag t
  pub digest : DigestSays s.digest t

-- behind a whole tag the text is a reference
pub tag_whole : (g : TagState) (t : List ℕ) → TagSays g t → ends_tag g ≡ true → (n g : List ℕ) × IsReference t n (Some g) None
tag_whole BeforeTag t d e = cc e
tag_whole (InTag k) t d e = let (n, g, r, _) = d in (n, g, r)
tag_whole NoTag t d e = cc e

-- a step keeps what the scanner says
keeps : (s : Scanner) (t : List ℕ) (b : ℕ) → Says s t → Says (step s b) (t ++ b ∷ [])
keeps s t b d = record {
  domain = domain_keeps s.domain t b d.domain;
  path = by_test (λ p. PathSays p (t ++ b ∷ [])) ((b == slash) && ends_domain s.domain) _ _
      (λ h. let parts = both (b == slash) (ends_domain s.domain) h in path_begun t (domain_whole s.domain t d.domain parts.1) b parts.0)
      (λ _. path_keeps s.path t b d.path);
  tag = by_test (λ g. TagSays g (t ++ b ∷ [])) ((b == colon) && ends_name s.path) _ _
      (λ h. let parts = both (b == colon) (ends_name s.path) h in tag_begun t (path_whole s.path t d.path parts.1) b parts.0)
      (λ _. tag_keeps s.tag t b d.tag);
  digest = by_test (λ g. DigestSays g (t ++ b ∷ [])) ((b == at_sign) && (ends_name s.path || ends_tag s.tag)) _ _
      (λ h. let parts = both (b == at_sign) (ends_name s.path || ends_tag s.tag) h in opened parts.0 (either (ends_name s.path) (ends_tag s.tag) parts.1))
      (λ _. digest_keeps s.digest t b d.digest);
}
  where
    opened : (b == at_sign) ≡ true → (ends_name s.path ≡ true) ⊎ (ends_tag s.tag ≡ true) → DigestSays BeforeWord (t ++ b ∷ [])
    opened h (inl e) = digest_begun t t None (named t (path_whole s.path t d.path e)) b h
    opened h (inr e) = let (n, g, r) = tag_whole s.tag t d.tag e in digest_begun t n (Some g) r b h

-- what the scanner says holds of the text that led to it
pub says : (t : List ℕ) → Says (fold step start t) t
says t = run_describes step Says keeps [] t start (record {
  domain = λ x c. one x c;
  path = λ r k. inl (one r (one r k));
  tag = tt;
  digest = tt;
})
