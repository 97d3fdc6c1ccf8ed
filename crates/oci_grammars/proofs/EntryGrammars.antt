-- Entries and keys are decided at their first mark.
use Rattle.std.proofs.Common.{ℕ, ◌≡◌, ◌&&◌, ◌||◌, ◌∙◌, not, List, [], ◌∷◌, Bool, true, false, refl, sym, subst, inl, inr, true≢false}
use Rattle.std.specs.Prelude.{◌==◌, if◌then◌else◌}
use Rattle.std.specs.List.{list_all}
use Rattle.std.proofs.lemmas.Bool.{eq-eqb}
use Rattle.std.proofs.lemmas.Bool.Decides.{Decides-at}
use Rattle.oci_base.specs.Classes.{dot, slash, has, until, after, IsIn, IsSomeOf, IsMark, IsJoined, is_word}
use Rattle.oci_base.proofs.Lacks.{Lacks, lacks_in, lacks_some, lacks_joined, both}
use Rattle.oci_grammars.specs.Classes.{hash, is_name_start, is_label_byte, is_not_equals, is_not_slash}
use Rattle.oci_grammars.specs.Decided.{is_environment_entry, is_portable_entry, is_reverse_domain, are_dotted_labels, is_some_of, is_headed, part_of, are_joined}
use Rattle.oci_grammars.specs.Entries.{IsEnvironmentEntry, IsPortableEntry, IsLabel, IsDottedLabels, IsReverseDomain}
use Rattle.oci_grammars.specs.Parts.{IsAny, IsExtended, IsHeaded}
use Rattle.oci_grammars.specs.declared.parts.Part.TheVariants.{KeyLabel}
use Rattle.oci_grammars.proofs.Deciding.{Tells, any_tells, in_tells, some_tells, headed_tells, headed_lacks, pair_tells, pair_lacks, marked_any_tells, extended_tells, joined_tells}

pub environment_entry : Tells is_environment_entry IsEnvironmentEntry
environment_entry = marked_any_tells 61 (is_some_of is_not_equals) (IsSomeOf is_not_equals) (some_tells is_not_equals) (lacks_some is_not_equals 61 refl)

pub portable_entry : Tells is_portable_entry IsPortableEntry
portable_entry = marked_any_tells 61 (is_headed is_name_start is_word) (IsHeaded is_name_start is_word) (headed_tells is_name_start is_word) (headed_lacks 61 is_name_start is_word refl refl)

label_lacks : (x : List ℕ) → IsLabel x → Lacks dot x
label_lacks x h = lacks_some is_label_byte dot refl x h

dotted_labels : Tells are_dotted_labels IsDottedLabels
dotted_labels =
    pair_tells dot (is_some_of is_label_byte) (are_joined KeyLabel dot) IsLabel (IsJoined (IsMark dot) IsLabel) (some_tells is_label_byte)
    (joined_tells dot (part_of KeyLabel) IsLabel (some_tells is_label_byte) label_lacks) label_lacks refl

-- labels and dots are no other mark
dotted_lacks : (mark : ℕ) → is_label_byte mark ≡ false → (dot == mark) ≡ false → (x : List ℕ) → IsDottedLabels x → Lacks mark x
dotted_lacks mark e h =
    pair_lacks mark dot IsLabel (IsJoined (IsMark dot) IsLabel) h (lacks_some is_label_byte mark e)
    (lacks_joined mark (IsMark dot) IsLabel (λ s d. subst (Lacks mark) (sym d) ((λ e. true≢false (sym (eq-eqb dot mark e) ∙ h)), tt)) (lacks_some is_label_byte mark e))

-- ---- a name of the domain's own behind the labels

not_slash : (b : Bool) (x : ℕ) (text : List ℕ) → (x == slash) ≡ b → list_all is_not_slash text ≡ true → list_all is_not_slash (if b then [] else x ∷ text) ≡ true
not_slash true x text e h = refl
not_slash false x text e h = rw (e, h) refl

until_slash : (t : List ℕ) → list_all is_not_slash (until slash t) ≡ true
until_slash [] = refl
until_slash (x ∷ t) = not_slash (x == slash) x (until slash t) refl (until_slash t)

at_first : (b : Bool) (class : ℕ → Bool) (t rest : List ℕ) → list_all class t ≡ true → list_all class rest ≡ true → list_all class (if b then t else rest) ≡ true
at_first true class t rest h k = h
at_first false class t rest h k = k

after_in : (class : ℕ → Bool) (mark : ℕ) (t : List ℕ) → list_all class t ≡ true → list_all class (after mark t) ≡ true
after_in class mark [] h = refl
after_in class mark (x ∷ t) h = at_first (x == mark) class t (after mark t) (both _ _ h).1 (after_in class mark t (both _ _ h).1)

abbrev is_own : List ℕ → Bool
is_own text = are_dotted_labels (until hash text) && (not (has hash text) || list_all is_not_slash (after hash text))

abbrev IsOwn : List ℕ → Type 0
IsOwn text = IsExtended hash IsDottedLabels (IsIn is_not_slash) text

own_tells : Tells is_own IsOwn
own_tells = extended_tells hash are_dotted_labels (list_all is_not_slash) IsDottedLabels (IsIn is_not_slash) dotted_labels (in_tells is_not_slash) (dotted_lacks hash refl refl)

own_lacks : (x : List ℕ) → IsOwn x → Lacks slash x
own_lacks x (inl h) = dotted_lacks slash refl refl x h
own_lacks x (inr h) = pair_lacks slash hash IsDottedLabels (IsIn is_not_slash) refl (dotted_lacks slash refl refl) (lacks_in is_not_slash slash refl) x h

always : (a b c d : Bool) → c ≡ true → ((a && (not b || c)) && (not d || true)) ≡ a
always true true c true e = rw e refl
always true true c false e = rw e refl
always true false c true e = refl
always true false c false e = refl
always false b c d e = refl

pub reverse_domain : Tells is_reverse_domain IsReverseDomain
reverse_domain t =
    let cut = until slash t in
    Decides-at _ _ (sym (always (are_dotted_labels (until hash cut)) (has hash cut) (list_all is_not_slash (after hash cut)) (has slash t) (after_in is_not_slash hash cut (until_slash t))))
    (extended_tells slash is_own (λ z. true) IsOwn IsAny own_tells any_tells own_lacks t)
