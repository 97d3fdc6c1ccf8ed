-- A report on a content has no error exactly if nothing stands against the content.
use Rattle.std.proofs.Common.{◌≡◌, ◌≢◌, List, [], ◌∷◌, ◌++◌, Bool, true, false, ◌&&◌, ◌||◌, not, map, Option, Some, None, cond, refl, sym, ap, ◌∙◌, inl, inr, true≢false}
use Rattle.std.specs.Prelude.{◌↔◌, IsTrue}
use Rattle.std.specs.List.{filter}
use Rattle.oci_layout.specs.Details.{is_none, goes_with}
use Rattle.oci_layout.specs.Looks.{may_miss, is_unread}
use Rattle.oci_layout.specs.Sound.{IsFine}
use Rattle.oci_layout.specs.declared.claim.Claim.{Claim}
use Rattle.oci_layout.specs.declared.claim.Detail.{Detail}
use Rattle.oci_layout.specs.declared.claim.Fault.{Fault}
use Rattle.oci_layout.specs.declared.claim.Fault.TheVariants as fault
use Rattle.oci_layout.specs.declared.claim.Held.{Held}
use Rattle.oci_schema.specs.declared.violation.Violation.{Violation}
use Rattle.oci_findings.specs.Contents.{Said, fact, violation_fact, held_fact, document_fault, document_facts, content_fault, note_fact, unread_fact}
use Rattle.oci_findings.specs.Lines.{is_error}
use Rattle.oci_findings.specs.Reports.{IsReportOn}
use Rattle.oci_findings.specs.declared.finding.Finding.{Finding}
use Rattle.oci_findings.specs.declared.report.Report.{Report}

-- one of them is wrong
abbrev has_wrong : List Said → Bool
has_wrong [] = false
has_wrong (x ∷ xs) = x.2 || has_wrong xs

wrong_both : (xs ys : List Said) → has_wrong (xs ++ ys) ≡ (has_wrong xs || has_wrong ys)
wrong_both [] ys = refl
wrong_both (x ∷ xs) ys = one x.2 (has_wrong (xs ++ ys)) (has_wrong xs) (has_wrong ys) (wrong_both xs ys)
  where
    one : (a all b c : Bool) → all ≡ (b || c) → (a || all) ≡ ((a || b) || c)
    one true all b c e = refl
    one false all b c e = e

cut : (b : Bool) (x : Finding) (xs : List Finding) → is_error x ≡ b → (filter is_error xs ≡ []) ↔ (has_wrong (map fact xs) ≡ false) → (cond b (x ∷ filter is_error xs) (filter is_error xs) ≡ []) ↔ ((b || has_wrong (map fact xs)) ≡ false)
cut true x xs is rest = ((λ e. absurd cc), (λ e. absurd (true≢false e)))
cut false x xs is rest = rest

none_wrong : (all : List Finding) → (filter is_error all ≡ []) ↔ (has_wrong (map fact all) ≡ false)
none_wrong [] = ((λ e. refl), (λ e. refl))
none_wrong (x ∷ xs) = cut (is_error x) x xs refl (none_wrong xs)

violations_wrong : (vs : List Violation) → (has_wrong (map violation_fact vs) ≡ false) ↔ (vs ≡ [])
violations_wrong [] = ((λ e. refl), (λ e. refl))
violations_wrong (v ∷ vs) = ((λ e. absurd (true≢false e)), (λ e. absurd cc))

held_wrong : (hs : List Held) → (has_wrong (map held_fact hs) ≡ false) ↔ (hs ≡ [])
held_wrong [] = ((λ e. refl), (λ e. refl))
held_wrong (h ∷ hs) = ((λ e. absurd (true≢false e)), (λ e. absurd cc))

-- that a content is not looked into is not wrong
note_right : (b : Bool) → has_wrong (note_fact b) ≡ false
note_right true = refl
note_right false = refl

unread_right : (claim : Claim) (found : Option Fault) → has_wrong (unread_fact claim found) ≡ false
unread_right claim None = note_right (is_unread claim)
unread_right claim (Some f) = refl

or_false : (b : Bool) → (b || false) ≡ b
or_false true = refl
or_false false = refl

-- all four are without a wrong
abbrev FourFree : Bool → Bool → Bool → Bool → Type 0
FourFree a b c d = (a ≡ false) × (b ≡ false) × (c ≡ false) × (d ≡ false)

four_free : (a b c d : Bool) → (((a || b) || c) || d) ≡ false → FourFree a b c d
four_free true b c d e = absurd (true≢false e)
four_free false true c d e = absurd (true≢false e)
four_free false false true d e = absurd (true≢false e)
four_free false false false d e = (refl, refl, refl, e)

four_none : (a b c d : Bool) → FourFree a b c d → (((a || b) || c) || d) ≡ false
four_none a b c d h = rw (h.0, h.1, h.2, h.3) refl

module _ (claim : Claim) (found : Option Fault) (detail : Detail) where
  abbrev parts : Type 0
  parts = FourFree (has_wrong (map violation_fact detail.violations.items)) (has_wrong (map held_fact detail.held.items)) (has_wrong (document_fault found)) (has_wrong (content_fault claim found))

  in_four : has_wrong (document_facts found detail ++ content_fault claim found ++ unread_fact claim found)
      ≡ (((has_wrong (map violation_fact detail.violations.items) || has_wrong (map held_fact detail.held.items)) || has_wrong (document_fault found)) || has_wrong (content_fault claim found))
  in_four =
      wrong_both (document_facts found detail ++ content_fault claim found) (unread_fact claim found)
      ∙ ap (λ b. has_wrong (document_facts found detail ++ content_fault claim found) || b) (unread_right claim found)
      ∙ or_false (has_wrong (document_facts found detail ++ content_fault claim found))
      ∙ wrong_both (document_facts found detail) (content_fault claim found)
      ∙ ap (λ b. b || has_wrong (content_fault claim found))
      (wrong_both (map violation_fact detail.violations.items ++ map held_fact detail.held.items) (document_fault found)
      ∙ ap (λ b. b || has_wrong (document_fault found)) (wrong_both (map violation_fact detail.violations.items) (map held_fact detail.held.items)))

  free : (report : Report) → IsReportOn claim found detail report → report.errors.items ≡ [] → parts
  free report is none =
      four_free _ _ _ _ (sym in_four ∙ sym (ap has_wrong is.says) ∙ (none_wrong is.all).0 (sym is.errors ∙ none))

  back : (report : Report) → IsReportOn claim found detail report → parts → report.errors.items ≡ []
  back report is h = is.errors ∙ (none_wrong is.all).1 (ap has_wrong is.says ∙ in_four ∙ four_none _ _ _ _ h)

not_fine : (claim : Claim) (f : Fault) → f ≢ fault.Missing → IsFine claim (Some f) → ⊥
not_fine claim f apart (inl e) = cc
not_fine claim f apart (inr h) = let same : f ≡ fault.Missing = cc in apart same

may : (b : Bool) → (not b || false) ≡ false → IsTrue b
may true e = refl
may false e = absurd (true≢false e)

no_wrong : (b : Bool) → IsTrue b → (not b || false) ≡ false
no_wrong b h = rw h refl

is_nil : {A : Type 0} (xs : List A) → is_none xs ≡ true → xs ≡ []
is_nil [] e = refl
is_nil (x ∷ xs) e = absurd (true≢false (sym e))

has_some : {A : Type 0} (xs : List A) → not (is_none xs) ≡ true → xs ≡ [] → ⊥
has_some [] e is = true≢false (sym e)
has_some (x ∷ xs) e is = absurd cc

both : (a b : Bool) → (a && b) ≡ true → (a ≡ true) × (b ≡ true)
both true true e = (refl, refl)
both true false e = absurd (true≢false (sym e))
both false b e = absurd (true≢false (sym e))

module _ (claim : Claim) (detail : Detail) where
  -- nothing was seen
  unseen : (is_none detail.violations.items && is_none detail.held.items) ≡ true → (c d : Bool) → c ≡ false → d ≡ false
      → FourFree (has_wrong (map violation_fact detail.violations.items)) (has_wrong (map held_fact detail.held.items)) c d
  unseen goes c d third last =
      let (listed, held) = both (is_none detail.violations.items) (is_none detail.held.items) goes in
      ((violations_wrong detail.violations.items).1 (is_nil detail.violations.items listed), (held_wrong detail.held.items).1 (is_nil detail.held.items held), third, last)

  missing : goes_with (Some fault.Missing) detail ≡ true → IsFine claim (Some fault.Missing) → parts claim (Some fault.Missing) detail
  missing goes (inl e) = absurd cc
  missing goes (inr h) = unseen goes false (not (may_miss claim) || false) refl (no_wrong (may_miss claim) h.1)

  -- something is wrong, and it is not fine
  neither : (f : Fault) → f ≢ fault.Missing → (parts claim (Some f) detail → ⊥) → parts claim (Some f) detail ↔ IsFine claim (Some f)
  neither f apart wrong = ((λ h. absurd (wrong h)), (λ fine. absurd (not_fine claim f apart fine)))

  by_fault : (found : Option Fault) → goes_with found detail ≡ true → parts claim found detail ↔ IsFine claim found
  by_fault None goes = ((λ h. inl refl), (λ fine. unseen goes false false refl refl))
  by_fault (Some fault.Missing) goes = ((λ h. inr (refl, may (may_miss claim) h.3)), missing goes)
  by_fault (Some fault.Unreadable) goes = neither fault.Unreadable (λ e. cc) (λ h. true≢false h.3)
  by_fault (Some fault.TooLarge) goes = neither fault.TooLarge (λ e. cc) (λ h. true≢false h.3)
  by_fault (Some (fault.Shorter n)) goes = neither (fault.Shorter n) (λ e. cc) (λ h. true≢false h.3)
  by_fault (Some fault.Longer) goes = neither fault.Longer (λ e. cc) (λ h. true≢false h.3)
  by_fault (Some (fault.OtherDigest sum)) goes = neither (fault.OtherDigest sum) (λ e. cc) (λ h. true≢false h.3)
  by_fault (Some fault.Unjudged) goes = neither fault.Unjudged (λ e. cc) (λ h. true≢false h.3)
  by_fault (Some fault.NoJson) goes = neither fault.NoJson (λ e. cc) (λ h. true≢false h.2)
  by_fault (Some fault.NoDocument) goes = neither fault.NoDocument (λ e. cc) (λ h. has_some detail.violations.items goes ((violations_wrong detail.violations.items).0 h.0))
  by_fault (Some fault.OtherType) goes = neither fault.OtherType (λ e. cc) (λ h. true≢false h.2)
  by_fault (Some (fault.Ambiguous member)) goes = neither (fault.Ambiguous member) (λ e. cc) (λ h. true≢false h.2)
  by_fault (Some fault.Embedded) goes =
      neither fault.Embedded (λ e. cc)
      (λ h. has_some detail.held.items (both (is_none detail.violations.items) (not (is_none detail.held.items)) goes).1 ((held_wrong detail.held.items).0 h.1))

pub no_error : (claim : Claim) (found : Option Fault) (detail : Detail) (report : Report) → goes_with found detail ≡ true → IsReportOn claim found detail report → (report.errors.items ≡ []) ↔ IsFine claim found
no_error claim found detail report goes is =
    let same = by_fault claim detail found goes in
    ((λ none. same.0 (free claim found detail report is none)), (λ fine. back claim found detail report is (same.1 fine)))
