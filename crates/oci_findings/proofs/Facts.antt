-- Findings that are made of facts, and lines that are written of them.
use Rattle.std.proofs.Common.{◌≡◌, ◌<◌, ◌+◌, ℕ, zero, suc, Bool, true, false, List, [], ◌∷◌, ◌++◌, length, take, map, get_or, refl, sym, ap, ◌∙◌, subst, arith, Option, Result, Ok, Err, inr}
use Rattle.std.specs.Io.KnownBytes.{Appends}
use Rattle.std.specs.List.{filter}
use Rattle.std.proofs.lemmas.List.{append_assoc, append-nil, get_or_default}
use Rattle.std.proofs.lemmas.List.Elements.{filter-append}
use Rattle.oci_base.specs.Escaped.{IsLine}
use Rattle.std.specs.Prelude.{IfOk}
use Rattle.oci_layout.specs.declared.claim.Claim.{Claim}
use Rattle.oci_layout.specs.declared.claim.Detail.{Detail}
use Rattle.oci_layout.specs.declared.claim.Fault.{Fault}
use Rattle.oci_findings.specs.declared.finding.Finding.{Finding}
use Rattle.oci_findings.specs.declared.report.Report.{Report}
use Rattle.oci_findings.specs.Contents.{fact, document_facts, content_fault, unread_fact}
use Rattle.oci_findings.specs.Reports.{IsReportOn}
use Rattle.oci_findings.specs.Lines.{AreLines, IsShownLine, WritesLines, is_error, is_no_error}
use Rattle.oci_findings.specs.Lines.AreLines.{none, more, left_out}
use Rattle.oci_findings.proofs.Each.{one_more, map_both}

-- one finding is added
pub pushed_one : {A B : Type 0} (f : A → B) (new old : List A) (y : A) (b : B) → new ≡ old ++ y ∷ [] → f y ≡ b → map f new ≡ map f old ++ b ∷ []
pushed_one f new old y b is says = ap (map f) is ∙ map_both f old y ∙ ap (λ q. map f old ++ q ∷ []) says

-- one item more is looked at, and its finding added
pub made_more : {A B C : Type 0} (f : A → C) (g : B → C) (new old : List A) (base : List C) (xs : List B) (i : ℕ) (x : B) → i < length xs → x ≡ get_or xs i x
    → map f new ≡ map f old ++ g x ∷ [] → map f old ≡ base ++ map g (take i xs) → map f new ≡ base ++ map g (take (i + 1) xs)
made_more f g new old base xs i x lt is says before =
    let step : i + 1 ≡ suc i = omega arith in
    says ∙ ap (λ q. q ++ g x ∷ []) before ∙ append_assoc base (map g (take i xs)) (g x ∷ []) ∙ ap (λ q. base ++ q) (sym (map_both g (take i xs) x))
    ∙ sym (ap (λ q. base ++ map g q) (ap (λ n. take n xs) step ∙ one_more xs i x lt is))

-- the same of the item at an index
pub made_more_at : {A B C : Type 0} (f : A → C) (g : B → C) (new old : List A) (base : List C) (xs : List B) (i : ℕ) (d : B) → i < length xs
    → map f new ≡ map f old ++ g (get_or xs i d) ∷ [] → map f old ≡ base ++ map g (take i xs) → map f new ≡ base ++ map g (take (i + 1) xs)
made_more_at f g new old base xs i d lt says before = made_more f g new old base xs i (get_or xs i d) lt (get_or_default xs i d _ lt) says before

pub one_line : (line : List ℕ) → IsLine line → AreLines false 1 line
one_line line h = more line none h

-- one line more, or the same lines
pub line_added : (colored : Bool) (new old line : List ℕ) → new ≡ old ++ line → IsShownLine colored line → (n : ℕ) → AreLines colored n old → AreLines colored (suc n) new
line_added colored new old line is h n before = subst (AreLines colored (suc n)) (sym is) (more line before h)

pub counted : (colored : Bool) (n i : ℕ) (text : List ℕ) → AreLines colored (suc (n + i)) text → AreLines colored (n + (i + 1)) text
counted colored n i text h = let step : suc (n + i) ≡ n + (i + 1) = omega arith in subst (λ k. AreLines colored k text) step h

-- the lines were written
pub written : {old new : Option (List ℕ)} (colored : Bool) (n : ℕ) (text : List ℕ) → AreLines colored n text → Appends old new text → WritesLines colored n old new
written colored n text h e = inr (text, h, e)

-- no line, and the lines of two lists behind it
pub both_lines : (colored : Bool) (first second third : List ℕ) (e w : ℕ) → first ≡ []
    → ((n : ℕ) → AreLines colored n first → AreLines colored (n + e) second) → ((n : ℕ) → AreLines colored n second → AreLines colored (n + w) third)
    → AreLines colored (e + w) third
both_lines colored first second third e w empty one two =
    let begun : AreLines colored zero first = subst (AreLines colored zero) (sym empty) none in
    let step : zero + e ≡ e = omega arith in
    two e (subst (λ k. AreLines colored k second) step (one zero begun))

pub one_kept : (new old : List Finding) (x : Finding) → is_error x ≡ true → new ≡ old ++ x ∷ [] → new ≡ old ++ filter is_error (x ∷ [])
one_kept new old x so is =
    let one : filter is_error (x ∷ []) ≡ x ∷ [] = rw so refl in
    is ∙ ap (λ q. old ++ q) (sym one)

pub one_passed : (new old : List Finding) (x : Finding) → is_error x ≡ false → new ≡ old → new ≡ old ++ filter is_error (x ∷ [])
one_passed new old x so is =
    let one : filter is_error (x ∷ []) ≡ [] = rw so refl in
    is ∙ sym (append-nil old) ∙ ap (λ q. old ++ q) (sym one)

pub others_kept : (new old : List Finding) (x : Finding) → is_error x ≡ false → new ≡ old ++ x ∷ [] → new ≡ old ++ filter is_no_error (x ∷ [])
others_kept new old x so is =
    let one : filter is_no_error (x ∷ []) ≡ x ∷ [] = rw so refl in
    is ∙ ap (λ q. old ++ q) (sym one)

pub others_passed : (new old : List Finding) (x : Finding) → is_error x ≡ true → new ≡ old → new ≡ old ++ filter is_no_error (x ∷ [])
others_passed new old x so is =
    let one : filter is_no_error (x ∷ []) ≡ [] = rw so refl in
    is ∙ sym (append-nil old) ∙ ap (λ q. old ++ q) (sym one)

pub sorted_more : (p : Finding → Bool) (kept new yielded : List Finding) (x : Finding) → new ≡ kept ++ filter p (x ∷ []) → kept ≡ filter p yielded → new ≡ filter p (yielded ++ x ∷ [])
sorted_more p kept new yielded x is before =
    is ∙ ap (λ q. q ++ filter p (x ∷ [])) before ∙ sym (filter-append p yielded (x ∷ []))

pub drained : {X : Type 0} (taken rest all : List X) → all ≡ taken ++ rest → length rest ≡ 0 → all ≡ taken
drained taken [] all e h = e ∙ append-nil taken
drained taken (x ∷ rest) all e h = absurd (omega arith)

pub line_left_out : (colored : Bool) (n : ℕ) (text : List ℕ) → AreLines colored n text → AreLines colored (suc n) text
line_left_out colored n text h = left_out h

pub uncounted : (colored : Bool) (n : ℕ) (text : List ℕ) → AreLines colored n text → AreLines colored (n + 0) text
uncounted colored n text h = let step : n ≡ n + 0 = omega arith in subst (λ k. AreLines colored k text) step h

pub reported : {E : Type 0} (r : Result Report E) (all : List Finding) (claim : Claim) (found : Option Fault) (detail : Detail)
    → map fact all ≡ document_facts found detail ++ content_fault claim found ++ unread_fact claim found
    → IfOk r (λ x. x.errors.items ≡ filter is_error all) → IfOk r (λ x. x.warnings.items ≡ filter is_no_error all) → IfOk r (IsReportOn claim found detail)
reported (Ok x) all claim found detail says e w = record { all = all; says = says; errors = e; warnings = w }
reported (Err x) all claim found detail says e w = tt
