-- How the parts of a reference grow at the end.
use Rattle.std.proofs.Common.{◌≡◌, ℕ, ◌+◌, ◌<◌, Bool, true, List, [], ◌∷◌, ◌++◌, Option, Some, None, length, refl, sym, ap, ◌∙◌, subst, inl, inr, append_assoc, append-nil, length-append, arith}
use Rattle.std.specs.Prelude.{◌==◌}
use Rattle.std.specs.Char.{is_ascii_digit, is_ascii_alphanumeric, is_ascii_alphabetic}
use Rattle.std.specs.List.{list_all}
use Rattle.std.proofs.lemmas.Bool.{eqb-true}
use Rattle.oci_base.specs.Classes.{dash, dot, slash, colon, at_sign, is_lower, is_host_byte, is_word, is_tag_byte, IsIn, IsSomeOf, IsOneOf, IsMark, IsJoined, one, more, behind}
use Rattle.oci_reference.specs.Reference.{IsSeparator, IsComponent, IsPath, IsDomainComponent, IsHost, HasPort, IsName, IsTag, IsWord, IsRefDigest, IsReference}
use Rattle.oci_base.proofs.Lacks.{both}
use Rattle.oci_base.proofs.Runs.{in_cons, in_wider, in_push, some_push}

-- two texts of a class are one of it
pub in_append : (class : ℕ → Bool) (x y : List ℕ) → IsIn class x → IsIn class y → IsIn class (x ++ y)
in_append class [] y h k = k
in_append class (b ∷ x) y h k =
    let parts = both (class b) (list_all class x) h in
    in_cons class b (x ++ y) parts.0 (in_append class x y parts.1 k)

-- one byte of a class is a text of it
pub one_in : (class : ℕ → Bool) (x : List ℕ) → IsOneOf class x → IsIn class x
one_in class x (b, h, e) = subst (IsIn class) (sym e) (in_cons class b [] h refl)

-- a byte that equals a mark is that mark
pub mark_is : (mark b : ℕ) → (b == mark) ≡ true → b ∷ [] ≡ mark ∷ []
mark_is mark b h = ap (λ z. z ∷ []) (eqb-true b mark h)

-- joined parts grow with their last part
pub joined_grow : (Separator Part : List ℕ → Type 0) (x : List ℕ) → ((p : List ℕ) → Part p → Part (p ++ x))
    → (text : List ℕ) → IsJoined Separator Part text → IsJoined Separator Part (text ++ x)
joined_grow Separator Part x grows text (one part h) = one (part ++ x) (grows part h)
joined_grow Separator Part x grows _ (more text separator part j h k) =
    subst (IsJoined Separator Part) (sym (append_assoc (text ++ separator) part x)) (more text separator (part ++ x) j h (grows part k))

-- Domains.
alnum_host : (b : ℕ) → is_ascii_alphanumeric b ≡ true → is_host_byte b ≡ true
alnum_host b h = rw h refl

-- a dash may stand within a domain component
pub dash_host : (b : ℕ) → (b == dash) ≡ true → is_host_byte b ≡ true
dash_host b h = grind arith

module _ (x : List ℕ) (b : ℕ) (h : IsIn is_host_byte x) (k : is_ascii_alphanumeric b ≡ true) where
  -- a domain component grows by host bytes and a last letter or digit
  component_grow : (p : List ℕ) → IsDomainComponent p → IsDomainComponent (p ++ (x ++ b ∷ []))
  component_grow p (inl first) = inr (p, x, b ∷ [], first, h, (b, k, refl), sym (append_assoc p x (b ∷ [])))
  component_grow p (inr (first, middle, last, f, m, l, e)) =
      let whole = in_append is_host_byte (middle ++ last) x
      (in_append is_host_byte middle last m (in_wider is_ascii_alphanumeric is_host_byte alnum_host last (one_in is_ascii_alphanumeric last l))) h in
      inr (first, (middle ++ last) ++ x, b ∷ [], f, whole, (b, k, refl), ap (λ z. z ++ (x ++ b ∷ [])) e ∙ simp append_assoc)

  pub host_grow : (t : List ℕ) → IsHost t → IsHost (t ++ (x ++ b ∷ []))
  host_grow = joined_grow (IsMark dot) IsDomainComponent (x ++ b ∷ []) component_grow

-- a port grows by a digit
pub port_push : (t : List ℕ) (b : ℕ) → is_ascii_digit b ≡ true → HasPort t → HasPort (t ++ b ∷ [])
port_push t b h p = record {
  host = p.host;
  port = p.port ++ b ∷ [];
  is_host = p.is_host;
  is_port = some_push is_ascii_digit p.port b p.is_port h;
  spelled = ap (λ z. z ++ b ∷ []) p.spelled ∙ append_assoc p.host (colon ∷ p.port) (b ∷ []);
}

-- Names.
pub name_grow : (x : List ℕ) → ((p : List ℕ) → IsPath p → IsPath (p ++ x)) → (n : List ℕ) → IsName n → IsName (n ++ x)
name_grow x grows n (inl path) = inl (grows n path)
name_grow x grows n (inr h) = inr (record {
  domain = h.domain;
  path = h.path ++ x;
  is_domain = h.is_domain;
  is_path = grows h.path h.is_path;
  spelled = ap (λ z. z ++ x) h.spelled ∙ append_assoc h.domain (slash ∷ h.path) x;
})

-- a name grows by a lowercase letter or digit
pub name_push : (b : ℕ) → is_lower b ≡ true → (n : List ℕ) → IsName n → IsName (n ++ b ∷ [])
name_push b h = name_grow (b ∷ []) (joined_grow (IsMark slash) IsComponent (b ∷ [])
    (joined_grow IsSeparator (IsSomeOf is_lower) (b ∷ []) (λ p k. some_push is_lower p b k h)))

-- a name grows by a separator and a run
pub name_more : (s r : List ℕ) → IsSeparator s → IsSomeOf is_lower r → (n : List ℕ) → IsName n → IsName (n ++ (s ++ r))
name_more s r h k = name_grow (s ++ r) (joined_grow (IsMark slash) IsComponent (s ++ r)
    (λ c j. subst IsComponent (append_assoc c s r) (more c s r j h k)))

-- a name grows by a slash and a run
pub name_slash : (r : List ℕ) → IsSomeOf is_lower r → (n : List ℕ) → IsName n → IsName (n ++ slash ∷ r)
name_slash r k = name_grow (slash ∷ r) (λ p j. subst IsPath (append_assoc p (slash ∷ []) r) (more p (slash ∷ []) r j refl (one r k)))

-- Tags.
pub tag_length : (g : List ℕ) (h : IsTag g) → length g ≡ 1 + length h.rest
tag_length g h =
    let (b, _, e) = h.is_first in
    ap length h.spelled ∙ length-append h.first h.rest ∙ ap (λ z. length z + length h.rest) e

-- one word byte is a tag
pub tag_first : (b : ℕ) → is_word b ≡ true → IsTag (b ∷ [])
tag_first b h = record { first = b ∷ []; rest = []; is_first = (b, h, refl); are_rest = refl; short = omega arith; spelled = refl }

-- a tag of fewer than 128 bytes grows by a tag byte
pub tag_push : (g : List ℕ) (b : ℕ) → IsTag g → is_tag_byte b ≡ true → length g < 128 → IsTag (g ++ b ∷ [])
tag_push g b h k lt = record {
  first = h.first;
  rest = h.rest ++ b ∷ [];
  is_first = h.is_first;
  are_rest = in_push is_tag_byte h.rest b h.are_rest k;
  short = omega (arith, tag_length g h, length-append h.rest (b ∷ []));
  spelled = ap (λ z. z ++ b ∷ []) h.spelled ∙ append_assoc h.first h.rest (b ∷ []);
}

-- Digests.
pub word_first : (b : ℕ) → is_ascii_alphabetic b ≡ true → IsWord (b ∷ [])
word_first b h = record { first = b ∷ []; rest = []; is_first = (b, h, refl); are_rest = refl; spelled = refl }

-- a word grows by a letter or digit
pub word_push : (b : ℕ) → is_ascii_alphanumeric b ≡ true → (w : List ℕ) → IsWord w → IsWord (w ++ b ∷ [])
word_push b k w h = record {
  first = h.first;
  rest = h.rest ++ b ∷ [];
  is_first = h.is_first;
  are_rest = in_push is_ascii_alphanumeric h.rest b h.are_rest k;
  spelled = ap (λ z. z ++ b ∷ []) h.spelled ∙ append_assoc h.first h.rest (b ∷ []);
}

-- References in their three forms.
pub named : (n : List ℕ) → IsName n → IsReference n n None None
named n h = record { spelled = sym (append-nil (n ++ []) ∙ append-nil n); is_name = h; is_tag = tt; is_digest = tt }

-- a name, a colon and a tag are a reference
pub tagged : (t n g : List ℕ) → t ≡ n ++ colon ∷ g → IsName n → IsTag g → IsReference t n (Some g) None
tagged t n g e h k = record { spelled = e ∙ sym (append-nil (n ++ colon ∷ g)); is_name = h; is_tag = k; is_digest = tt }

-- how a reference with a tag alone is spelled
pub tagged_spelled : (t n g : List ℕ) → IsReference t n (Some g) None → t ≡ n ++ colon ∷ g
tagged_spelled t n g h = h.spelled ∙ append-nil (n ++ colon ∷ g)

-- a reference without digest, an `@` and a digest are a reference
pub digested : (t u n d : List ℕ) (g : Option (List ℕ)) → t ≡ u ++ at_sign ∷ d → IsReference u n g None → IsRefDigest d → IsReference t n g (Some d)
digested t u n d g e h k = record {
  spelled = e ∙ ap (λ z. z ++ at_sign ∷ d) (h.spelled ∙ append-nil (n ++ behind colon g));
  is_name = h.is_name;
  is_tag = h.is_tag;
  is_digest = k;
}
