-- A reference leads the scanner to its places.
use Rattle.std.proofs.Common.{◌≡◌, ℕ, ◌+◌, ◌<◌, ◌≤◌, ◌||◌, ◌&&◌, ◌⊎◌, Bool, true, false, cond, List, [], ◌∷◌, ◌++◌, Option, Some, None, length, refl, sym, ap, ◌∙◌, subst, inl, inr, append-nil, length-append, arith}
use Rattle.std.specs.Prelude.{◌==◌, nat_lt}
use Rattle.std.specs.Char.{is_ascii_digit, is_ascii_alphanumeric, is_ascii_alphabetic, is_ascii_hexdigit}
use Rattle.std.specs.List.{fold, list_all}
use Rattle.std.proofs.lemmas.Bool.{eqb-true, ltb-true, ltb-false, lt-ltb}
use Rattle.std.proofs.lemmas.Grind.{fold-append}
use Rattle.oci_reference.specs.declared.scanner.domain.DomainState.{DomainState}
use Rattle.oci_reference.specs.declared.scanner.domain.DomainState.TheVariants.{BeforeLabel, InLabel, InHyphens, AfterColon, InPort, NoDomain}
use Rattle.oci_reference.specs.declared.scanner.path.PathState.{PathState}
use Rattle.oci_reference.specs.declared.scanner.path.PathState.TheVariants.{BeforeRun, InRun, AfterUnderscore, InDashes, NoPath}
use Rattle.oci_reference.specs.declared.scanner.tag.TagState.{TagState}
use Rattle.oci_reference.specs.declared.scanner.tag.TagState.TheVariants.{BeforeTag, InTag, NoTag}
use Rattle.oci_reference.specs.declared.scanner.digest.DigestState.{DigestState}
use Rattle.oci_reference.specs.declared.scanner.digest.DigestState.TheVariants.{BeforeWord, InWord, InDigits}
use Rattle.oci_reference.specs.declared.scanner.Scanner.{Scanner}
use Rattle.oci_base.specs.Classes.{dash, dot, slash, colon, at_sign, is_lower, is_host_byte, is_word, is_tag_byte, is_joint, IsIn, IsSomeOf, IsOneOf, IsMark, behind}
use Rattle.oci_reference.specs.Reference.{IsSeparator, IsComponent, IsPath, IsDomainComponent, IsHost, IsDomain, IsName, IsTag, IsWord, IsRefDigest, IsReference}
use Rattle.oci_reference.specs.Scanner.{domain_next, ends_domain, path_next, tag_next, digest_next, start, step, found, places, place_behind, end_behind}
use Rattle.oci_base.proofs.Lacks.{both}
use Rattle.oci_base.proofs.Runs.{run_class, run_some, run_one, run_mark, run_append, run_joined}
use Rattle.oci_reference.proofs.Grows.{tag_length}

-- a byte of a class is none that the class lacks
apart : (class : ℕ → Bool) (c : ℕ) → class c ≡ false → (b : ℕ) → class b ≡ true → (b == c) ≡ false
apart class c out b h = go (b == c) refl
  where
    go : (same : Bool) → (b == c) ≡ same → same ≡ false
    go true e = let clash : true ≡ false = sym h ∙ ap class (eqb-true b c e) ∙ out in cc clash
    go false e = refl

-- no conjunction with `false` is true
and-false : (x : Bool) → (x && false) ≡ false
and-false true = refl
and-false false = refl

-- a choice between a value and itself
same-cond : {A : Type 0} (c : Bool) (x : A) → cond c x x ≡ x
same-cond true x = refl
same-cond false x = refl

-- The path.
abbrev pub ready : PathState → Bool
ready BeforeRun = true
ready InRun = false
ready AfterUnderscore = true
ready InDashes = true
ready NoPath = false

-- the path waits for a run, or may go on with one
abbrev pub Ready : Scanner → Type 0
Ready s = ready s.path ≡ true

-- the text so far is a name
abbrev pub Named : Scanner → Type 0
Named s = s.path ≡ InRun

-- a lowercase letter or digit goes on with a run
next_ready : (p : PathState) (b : ℕ) → is_lower b ≡ true → ready p ≡ true → path_next p b ≡ InRun
next_ready BeforeRun b h r = rw h refl
next_ready InRun b h r = cc r
next_ready AfterUnderscore b h r = rw h refl
next_ready InDashes b h r = rw h refl
next_ready NoPath b h r = cc r

-- a run is behind a ready path a name
over_run : (t : List ℕ) → IsSomeOf is_lower t → (s : Scanner) → Ready s → Named (fold step s t)
over_run = run_some step is_lower Ready Named
    (λ s b h r. rw (apart is_lower slash refl b h) (next_ready s.path b h r))
    (λ s b h e. rw (apart is_lower slash refl b h, e, h) refl)

-- the path is behind dashes, or in a run
abbrev Dashed : Scanner → Type 0
Dashed s = s.path ≡ InDashes

-- dashes behind a name
over_dashes : (t : List ℕ) → IsSomeOf (λ b. b == dash) t → (s : Scanner) → Named s → Dashed (fold step s t)
over_dashes = run_some step (λ b. b == dash) Named Dashed
    (λ s b h e. rw (eqb-true b dash h, e) refl)
    (λ s b h e. rw (eqb-true b dash h, e) refl)

-- a separator behind a name makes the path ready
over_separator : (t : List ℕ) → IsSeparator t → (s : Scanner) → Named s → Ready (fold step s t)
over_separator t (inl m) s e = rw (m, e) refl
over_separator t (inr (inl m)) s e = rw (m, e) refl
over_separator t (inr (inr (inl m))) s e = rw (m, e) refl
over_separator t (inr (inr (inr d))) s e = rw (over_dashes t d s e) refl

-- a slash behind a name makes the path ready
over_slash : (t : List ℕ) → IsMark slash t → (s : Scanner) → Named s → Ready (fold step s t)
over_slash = run_mark step slash Named Ready (λ s e. rw (e, same-cond (ends_domain s.domain) BeforeRun) refl)

-- a path is, from a ready path on, a name
over_path : (t : List ℕ) → IsPath t → (s : Scanner) → Ready s → Named (fold step s t)
over_path = run_joined step Ready Named (IsMark slash) IsComponent
    (run_joined step Ready Named IsSeparator (IsSomeOf is_lower) over_run over_separator) over_slash

-- The domain.
abbrev DomainIs : DomainState → Scanner → Type 0
DomainIs d s = s.domain ≡ d

-- within a domain component
abbrev in_component : DomainState → Bool
in_component BeforeLabel = false
in_component InLabel = true
in_component InHyphens = true
in_component AfterColon = false
in_component InPort = false
in_component NoDomain = false

-- the domain is within a component
abbrev Inside : Scanner → Type 0
Inside s = in_component s.domain ≡ true

-- the first is true, or only the second
pub or_cases : (x y : Bool) → (x || y) ≡ true → (x ≡ true) ⊎ ((x ≡ false) × (y ≡ true))
or_cases true y h = inl refl
or_cases false y h = inr (refl, h)

-- the cases of a byte within a component
abbrev HostCases : ℕ → Type 0
HostCases b = (is_ascii_alphanumeric b ≡ true) ⊎ ((is_ascii_alphanumeric b ≡ false) × ((b == dash) ≡ true))

-- such a byte stays within the component
middle_cases : (d : DomainState) (b : ℕ) → HostCases b → in_component d ≡ true → in_component (domain_next d b) ≡ true
middle_cases BeforeLabel b h i = cc i
middle_cases InLabel b (inl h) i = rw h refl
middle_cases InLabel b (inr (h, k)) i = rw (h, k) refl
middle_cases InHyphens b (inl h) i = rw h refl
middle_cases InHyphens b (inr (h, k)) i = rw (h, k) refl
middle_cases AfterColon b h i = cc i
middle_cases InPort b h i = cc i
middle_cases NoDomain b h i = cc i

-- letters, digits and dashes stay within the component
middle_next : (d : DomainState) (b : ℕ) → is_host_byte b ≡ true → in_component d ≡ true → in_component (domain_next d b) ≡ true
middle_next d b h i = middle_cases d b (or_cases (is_ascii_alphanumeric b) (b == dash) h) i

-- a letter or digit may end the component
last_next : (d : DomainState) (b : ℕ) → is_ascii_alphanumeric b ≡ true → in_component d ≡ true → domain_next d b ≡ InLabel
last_next BeforeLabel b h i = cc i
last_next InLabel b h i = rw h refl
last_next InHyphens b h i = rw h refl
last_next AfterColon b h i = cc i
last_next InPort b h i = cc i
last_next NoDomain b h i = cc i

-- the first byte of a component
over_first : (t : List ℕ) → IsOneOf is_ascii_alphanumeric t → (s : Scanner) → DomainIs BeforeLabel s → DomainIs InLabel (fold step s t)
over_first = run_one step is_ascii_alphanumeric (DomainIs BeforeLabel) (DomainIs InLabel) (λ s b h e. rw (e, h) refl)

-- the bytes between
over_middle : (t : List ℕ) → IsIn is_host_byte t → (s : Scanner) → Inside s → Inside (fold step s t)
over_middle = run_class step is_host_byte Inside (λ s b h i. middle_next s.domain b h i)

-- the last byte of a component
over_last : (t : List ℕ) → IsOneOf is_ascii_alphanumeric t → (s : Scanner) → Inside s → DomainIs InLabel (fold step s t)
over_last = run_one step is_ascii_alphanumeric Inside (DomainIs InLabel) (λ s b h i. last_next s.domain b h i)

-- a component leads into a label
over_domain_component : (t : List ℕ) → IsDomainComponent t → (s : Scanner) → DomainIs BeforeLabel s → DomainIs InLabel (fold step s t)
over_domain_component t (inl h) s e = over_first t h s e
over_domain_component t (inr (first, middle, last, h, k, l, e)) s e' =
    subst (λ z. DomainIs InLabel (fold step s z)) (sym e)
    (run_append step (DomainIs BeforeLabel) Inside (DomainIs InLabel) (first ++ middle) last
    (run_append step (DomainIs BeforeLabel) Inside Inside first middle (λ s e. rw (over_first first h s e) refl) (over_middle middle k))
    (over_last last l) s e')

-- a dot leads before a label
over_dot : (t : List ℕ) → IsMark dot t → (s : Scanner) → DomainIs InLabel s → DomainIs BeforeLabel (fold step s t)
over_dot = run_mark step dot (DomainIs InLabel) (DomainIs BeforeLabel) (λ s e. rw e refl)

-- a host leads into a label
over_host : (t : List ℕ) → IsHost t → (s : Scanner) → DomainIs BeforeLabel s → DomainIs InLabel (fold step s t)
over_host = run_joined step (DomainIs BeforeLabel) (DomainIs InLabel) (IsMark dot) IsDomainComponent over_domain_component over_dot

-- the digits of a port
over_port : (t : List ℕ) → IsSomeOf is_ascii_digit t → (s : Scanner) → DomainIs AfterColon s → DomainIs InPort (fold step s t)
over_port = run_some step is_ascii_digit (DomainIs AfterColon) (DomainIs InPort) (λ s b h e. rw (e, h) refl) (λ s b h e. rw (e, h) refl)

-- a domain is told to be one
over_domain : (t : List ℕ) → IsDomain t → ends_domain (fold step start t).domain ≡ true
over_domain t (inl h) = rw (over_host t h start refl) refl
over_domain t (inr p) =
    let host = over_host p.host p.is_host start refl in
    let after : DomainIs AfterColon (step (fold step start p.host) colon) = rw host refl in
    rw (p.spelled, fold-append step start p.host (colon ∷ p.port), over_port p.port p.is_port (step (fold step start p.host) colon) after) refl

-- a name is told to be one
over_name : (n : List ℕ) → IsName n → Named (fold step start n)
over_name n (inl path) = over_path n path start refl
over_name n (inr h) =
    let whole = over_domain h.domain h.is_domain in
    rw (h.spelled, fold-append step start h.domain (slash ∷ h.path))
    (over_path h.path h.is_path (step (fold step start h.domain) slash) (rw whole refl))

-- The tag.
counts : (t : List ℕ) (s : Scanner) → (fold step s t).count ≡ s.count + length t
counts [] s = omega arith
counts (b ∷ t) s = omega (arith, counts t (step s b))

-- as many bytes are counted as were pushed
pub count_of : (t : List ℕ) → (fold step start t).count ≡ length t
count_of t = omega (arith, counts t start)

-- behind a name of this length and a colon
record TagAt (name : ℕ) (tag : TagState) (s : Scanner) : Type 0 where
  path : s.path ≡ NoPath
  tag_is : s.tag ≡ tag
  name_is : s.name ≡ name
  begins : s.tag_begin ≡ name + 1

-- a byte behind the colon that is no mark leaves the name alone
tag_step : (n : ℕ) (g : TagState) (s : Scanner) (b : ℕ) → (b == slash) ≡ false → (b == colon) ≡ false → TagAt n g s → TagAt n (tag_next g b) (step s b)
tag_step n g s b h k d = record {
  path = rw (h, d.path) refl;
  tag_is = rw (k, d.tag_is) refl;
  name_is = rw d.path d.name_is;
  begins = rw k d.begins;
}

-- tag bytes are counted up to 128
over_rest : (n k m : ℕ) (t : List ℕ) → IsIn is_tag_byte t → k + length t ≡ m → m ≤ 128 → (s : Scanner) → TagAt n (InTag k) s → TagAt n (InTag m) (fold step s t)
over_rest n k m [] h e le s d = let same : k ≡ m = omega arith in subst (λ z. TagAt n (InTag z) s) same d
over_rest n k m (b ∷ t) h e le s d =
    let parts = both (is_tag_byte b) (list_all is_tag_byte t) h in
    let more : nat_lt k 128 ≡ true = lt-ltb k 128 (omega arith) in
    let next : tag_next (InTag k) b ≡ InTag (k + 1) = rw (parts.0, more) refl in
    over_rest n (k + 1) m t parts.1 (omega arith) le (step s b)
    (subst (λ z. TagAt n z (step s b)) next
    (tag_step n (InTag k) s b (apart is_tag_byte slash refl b parts.0) (apart is_tag_byte colon refl b parts.0) d))

-- a tag is counted from its colon on
over_tag : (n : ℕ) (g : List ℕ) → IsTag g → (s : Scanner) → TagAt n BeforeTag s → TagAt n (InTag (length g)) (fold step s g)
over_tag n g h s d = go h.is_first
  where
    go : IsOneOf is_word h.first → TagAt n (InTag (length g)) (fold step s g)
    go (b, w, e) =
        let whole : g ≡ b ∷ h.rest = h.spelled ∙ ap (λ z. z ++ h.rest) e in
        let next : tag_next BeforeTag b ≡ InTag 1 = rw w refl in
        subst (λ z. TagAt n (InTag (length g)) (fold step s z)) (sym whole)
        (over_rest n 1 (length g) h.rest h.are_rest (sym (tag_length g h)) (omega (arith, tag_length g h, h.short)) (step s b)
        (subst (λ z. TagAt n z (step s b)) next (tag_step n BeforeTag s b (apart is_word slash refl b w) (apart is_word colon refl b w) d)))

-- a colon ends the path
colon_path : (p : PathState) → path_next p colon ≡ NoPath
colon_path BeforeRun = refl
colon_path InRun = refl
colon_path AfterUnderscore = refl
colon_path InDashes = refl
colon_path NoPath = refl

-- a name and its tag lead into the tag
over_name_tag : (n g : List ℕ) → IsName n → IsTag g → TagAt (length n) (InTag (length g)) (fold step start (n ++ colon ∷ g))
over_name_tag n g h k =
    let name = over_name n h in
    let s = fold step start n in
    rw (fold-append step start n (colon ∷ g))
    (over_tag (length n) g k (step s colon) (record {
      path = colon_path s.path;
      tag_is = rw name refl;
      name_is = rw name (count_of n);
      begins = omega (arith, count_of n);
    }))

-- The digest.
joint_no_word : (b : ℕ) → is_joint b ≡ true → is_ascii_alphanumeric b ≡ false
joint_no_word b h = grind arith

record DigestAt (name : ℕ) (tag : Option (ℕ × ℕ)) (begin : ℕ) (digest : DigestState) (s : Scanner) : Type 0 where
  path : s.path ≡ NoPath
  no_tag : s.tag ≡ NoTag
  digest_is : s.digest ≡ digest
  name_is : s.name ≡ name
  tag_was : s.closed_tag ≡ tag
  begins : s.digest_begin ≡ begin

-- one more digit, of which 32 are counted
digit_next : (k b : ℕ) → is_ascii_hexdigit b ≡ true → k ≤ 32
    → (k' : ℕ) × (k' ≤ 32) × ((m : ℕ) → 32 ≤ k + 1 + m → 32 ≤ k' + m) × (digest_next (InDigits k) b ≡ InDigits k')
digit_next k b hex le = go (nat_lt k 32) refl
  where
    go : (small : Bool) → nat_lt k 32 ≡ small
        → (k' : ℕ) × (k' ≤ 32) × ((m : ℕ) → 32 ≤ k + 1 + m → 32 ≤ k' + m) × (digest_next (InDigits k) b ≡ InDigits k')
    go true lt = let less : k < 32 = ltb-true k 32 lt in (k + 1, omega arith, (λ m h. omega arith), rw (hex, lt) refl)
    go false lt = let most : 32 ≤ k = ltb-false k 32 lt in (k, le, (λ m h. omega arith), rw (hex, lt) refl)

-- where name and tag end
pub length_front : (n : List ℕ) (g : Option (List ℕ)) → length (n ++ behind colon g) ≡ end_behind (length n) g
length_front n None = ap length (append-nil n)
length_front n (Some g) = omega (arith, length-append n (colon ∷ g))

module _ (n : ℕ) (g : Option (ℕ × ℕ)) (begin : ℕ) where
  -- a byte behind the `@` that is no mark leaves name and tag alone
  digest_step : (d : DigestState) (s : Scanner) (b : ℕ) → (b == slash) ≡ false → (b == at_sign) ≡ false → DigestAt n g begin d s → DigestAt n g begin (digest_next d b) (step s b)
  digest_step d s b h k a = record {
    path = rw (h, a.path) refl;
    no_tag = rw (a.path, and-false (b == colon), a.no_tag) refl;
    digest_is = rw (k, a.digest_is) refl;
    name_is = rw a.path a.name_is;
    tag_was = rw (a.path, a.no_tag) a.tag_was;
    begins = rw k a.begins;
  }

  -- a step by a byte of a class
  digest_to : (class : ℕ → Bool) → class slash ≡ false → class at_sign ≡ false → (d d' : DigestState) → ((b : ℕ) → class b ≡ true → digest_next d b ≡ d')
      → (s : Scanner) (b : ℕ) → class b ≡ true → DigestAt n g begin d s → DigestAt n g begin d' (step s b)
  digest_to class out out' d d' next s b h a =
      subst (λ z. DigestAt n g begin z (step s b)) (next b h) (digest_step d s b (apart class slash out b h) (apart class at_sign out' b h) a)

  -- a word of the algorithm
  over_word : (t : List ℕ) → IsWord t → (s : Scanner) → DigestAt n g begin BeforeWord s → DigestAt n g begin InWord (fold step s t)
  over_word t w s a =
      subst (λ z. DigestAt n g begin InWord (fold step s z)) (sym w.spelled)
      (run_append step (DigestAt n g begin BeforeWord) (DigestAt n g begin InWord) (DigestAt n g begin InWord) w.first w.rest
      (run_one step is_ascii_alphabetic (DigestAt n g begin BeforeWord) (DigestAt n g begin InWord)
      (digest_to is_ascii_alphabetic refl refl BeforeWord InWord (λ b h. rw h refl)) w.first w.is_first)
      (run_class step is_ascii_alphanumeric (DigestAt n g begin InWord)
      (digest_to is_ascii_alphanumeric refl refl InWord InWord (λ b h. rw h refl)) w.rest w.are_rest)
      s a)

  -- a mark between two words
  over_joint : (t : List ℕ) → IsOneOf is_joint t → (s : Scanner) → DigestAt n g begin InWord s → DigestAt n g begin BeforeWord (fold step s t)
  over_joint = run_one step is_joint (DigestAt n g begin InWord) (DigestAt n g begin BeforeWord)
      (digest_to is_joint refl refl InWord BeforeWord (λ b h. rw (joint_no_word b h, h) refl))

  -- 32 and more digits are counted as 32
  over_digits : (k : ℕ) (t : List ℕ) → IsIn is_ascii_hexdigit t → k ≤ 32 → 32 ≤ k + length t → (s : Scanner)
      → DigestAt n g begin (InDigits k) s → DigestAt n g begin (InDigits 32) (fold step s t)
  over_digits k [] h le ge s a = let same : k ≡ 32 = omega arith in subst (λ z. DigestAt n g begin (InDigits z) s) same a
  over_digits k (b ∷ t) h le ge s a =
      let parts = both (is_ascii_hexdigit b) (list_all is_ascii_hexdigit t) h in
      let (k', le', ge', next) = digit_next k b parts.0 le in
      over_digits k' t parts.1 le' (ge' (length t) (omega arith)) (step s b)
      (subst (λ z. DigestAt n g begin z (step s b)) next
      (digest_step (InDigits k) s b (apart is_ascii_hexdigit slash refl b parts.0) (apart is_ascii_hexdigit at_sign refl b parts.0) a))

  -- a digest is told to be one
  over_ref_digest : (d : List ℕ) → IsRefDigest d → (s : Scanner) → DigestAt n g begin BeforeWord s → DigestAt n g begin (InDigits 32) (fold step s d)
  over_ref_digest d r s a =
      let words = run_joined step (DigestAt n g begin BeforeWord) (DigestAt n g begin InWord) (IsOneOf is_joint) IsWord over_word over_joint r.algorithm r.is_algorithm s a in
      let after = digest_step InWord (fold step s r.algorithm) colon refl refl words in
      rw (r.spelled, fold-append step s r.algorithm (colon ∷ r.digits))
      (over_digits 0 r.digits r.are_digits (omega arith) (omega (arith, r.many)) (step (fold step s r.algorithm) colon) after)

-- an `@` ends the path
at_path : (p : PathState) → path_next p at_sign ≡ NoPath
at_path BeforeRun = refl
at_path InRun = refl
at_path AfterUnderscore = refl
at_path InDashes = refl
at_path NoPath = refl

-- an `@` ends the tag
at_tag : (g : TagState) → tag_next g at_sign ≡ NoTag
at_tag BeforeTag = refl
at_tag (InTag k) = refl
at_tag NoTag = refl

-- behind a name, or a name and a tag, and an `@`
over_at : (u n : List ℕ) (g : Option (List ℕ)) → IsReference u n g None
    → DigestAt (length n) (place_behind (length n) g) (end_behind (length n) g + 1) BeforeWord (step (fold step start u) at_sign)
over_at u n None r =
    let spelled : u ≡ n = r.spelled ∙ append-nil (n ++ []) ∙ append-nil n in
    let name : (fold step start u).path ≡ InRun = rw spelled (over_name n r.is_name) in
    let count : (fold step start u).count ≡ length n = count_of u ∙ ap length spelled in
    let s = fold step start u in record {
      path = at_path s.path;
      no_tag = at_tag s.tag;
      digest_is = rw name refl;
      name_is = rw name count;
      tag_was = rw name refl;
      begins = ap (λ z. z + 1) count;
    }
over_at u n (Some g) r =
    let spelled : u ≡ n ++ colon ∷ g = r.spelled ∙ append-nil (n ++ colon ∷ g) in
    let d : TagAt (length n) (InTag (length g)) (fold step start u) = rw spelled (over_name_tag n g r.is_name r.is_tag) in
    let count : (fold step start u).count ≡ length n + 1 + length g = omega (arith, count_of u, ap length spelled, length-append n (colon ∷ g)) in
    let s = fold step start u in record {
      path = at_path s.path;
      no_tag = at_tag s.tag;
      digest_is = rw (d.path, d.tag_is) refl;
      name_is = rw d.path d.name_is;
      tag_was = rw (d.path, d.tag_is, d.begins, count) refl;
      begins = ap (λ z. z + 1) count;
    }

-- what the scanner then holds
pub holds : (t n : List ℕ) (g d : Option (List ℕ)) → IsReference t n g d → found (fold step start t) ≡ Some (places n g d)
holds t n None None r =
    let spelled : t ≡ n = r.spelled ∙ append-nil (n ++ []) ∙ append-nil n in
    let name : (fold step start t).path ≡ InRun = rw spelled (over_name n r.is_name) in
    rw (name, count_of t, spelled) refl
holds t n (Some g) None r =
    let spelled : t ≡ n ++ colon ∷ g = r.spelled ∙ append-nil (n ++ colon ∷ g) in
    let d : TagAt (length n) (InTag (length g)) (fold step start t) = rw spelled (over_name_tag n g r.is_name r.is_tag) in
    let count : (fold step start t).count ≡ length n + 1 + length g = omega (arith, count_of t, ap length spelled, length-append n (colon ∷ g)) in
    rw (d.path, d.tag_is, d.name_is, d.begins, count) refl
holds t n g (Some d) r =
    let u = n ++ behind colon g in
    let front : IsReference u n g None = record { spelled = sym (append-nil u); is_name = r.is_name; is_tag = r.is_tag; is_digest = tt } in
    let a : DigestAt (length n) (place_behind (length n) g) (end_behind (length n) g + 1) (InDigits 32) (fold step start t) =
    rw (r.spelled, fold-append step start u (at_sign ∷ d)) (over_ref_digest _ _ _ d r.is_digest (step (fold step start u) at_sign) (over_at u n g front)) in
    let count : (fold step start t).count ≡ end_behind (length n) g + 1 + length d =
    omega (arith, count_of t, ap length r.spelled, length-append u (at_sign ∷ d), length_front n g) in
    rw (a.path, a.no_tag, a.digest_is, a.name_is, a.tag_was, a.begins, count) refl
