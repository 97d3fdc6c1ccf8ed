-- The laws of texts.
use Rattle.std.proofs.Common.{◌≡◌, ◌≤◌, ℕ, List, Option, Some, ◌∙◌, sym, ap}
use Rattle.std.specs.Prelude.{◌↔◌}
use Rattle.serde_json.specs.Data.{Data, depth}
use Rattle.serde_json.specs.Read.{read, max_depth}
use Rattle.serde_json.specs.Written.{compact_text}
use Rattle.oci_model.specs.Plain.{Plain}
use Rattle.oci_model.specs.Shape.{Shape}
use Rattle.oci_model.specs.Means.{Means}
use Rattle.oci_model.specs.Value.{value}
use Rattle.oci_model.specs.Norm.{norm}
use Rattle.oci_model.specs.Fits.{Fits}
use Rattle.oci_model.specs.Writable.{Writable}
use Rattle.oci_model.specs.WellFormed.{WellFormed}
use Rattle.oci_json.specs.Defaults.{HasReadableDefaults}
use Rattle.oci_json.specs.Details.{HasNoNullDetail}
use Rattle.oci_json.proofs.Canonical as law
use Rattle.oci_json.proofs.Meanings.{allowed}
use Rattle.oci_json.proofs.MeaningFits.{fits}
use Rattle.oci_json.proofs.MeaningReadable.{is_readable}
use Rattle.oci_model.proofs.NoFloat.{none_written}
use Rattle.oci_json.proofs.ReadAgain.{compact_read}
use Rattle.oci_json.proofs.ReadIsWritable.{read_is_writable}
use Rattle.oci_json.proofs.Trees.{read_within}

-- what is written for what a text means, means the normal form
pub means_norm : (s : Shape) (t : List ℕ) (v : Data) (p : Plain) → WellFormed s → read t ≡ Some v → Means s v p → Means s (value s p) (norm s p)
means_norm s t v p w e h = law.means_norm s p w (fits s v p w h) (read_is_writable s t v p w e h)

-- the normal form is written as the same bytes
pub once : (s : Shape) (t : List ℕ) (v : Data) (p : Plain) → WellFormed s → read t ≡ Some v → Means s v p
    → compact_text (value s (norm s p)) ≡ compact_text (value s p)
once s t v p w e h = ap compact_text (law.twice_is_once s v p w h (read_is_writable s t v p w e h))

-- what the written value means is written as that itself is
pub twice : (s : Shape) (t : List ℕ) (v : Data) (p q : Plain) → WellFormed s → read t ≡ Some v → Means s v p → Means s (value s p) q
    → compact_text (value s q) ≡ compact_text (value s p)
twice s t v p q w e h k =
    ap (λ r. compact_text (value s r)) ((law.reads_back s p q w (fits s v p w h) (read_is_writable s t v p w e h)).0 k) ∙ once s t v p w e h

-- equal normal forms are written alike
pub same : (s : Shape) (t u : List ℕ) (v w : Data) (p q : Plain) → WellFormed s → read t ≡ Some v → read u ≡ Some w → Means s v p → Means s w q
    → norm s p ≡ norm s q → compact_text (value s p) ≡ compact_text (value s q)
same s t u v w p q well e f h k n = sym (once s t v p well e h) ∙ ap (λ r. compact_text (value s r)) n ∙ once s u w q well f k

-- what is written for what a text means is read back
pub is_read : (s : Shape) (t : List ℕ) (v : Data) (p : Plain) → WellFormed s → HasReadableDefaults s → read t ≡ Some v → Means s v p
    → depth (value s p) ≤ max_depth → read (compact_text (value s p)) ≡ Some (value s p)
is_read s t v p w k e h shallow =
    compact_read (value s p) (is_readable s (allowed s w) k max_depth v p (read_within t v e) h) shallow (none_written s p (read_is_writable s t v p w e h))

-- what a text reads as is one tree
some_same : (d e : Data) → ◌≡◌ {A = Option Data} (Some d) (Some e) → d ≡ e
some_same d e h = cc

-- texts that are read back are equal exactly if the normal forms are
pub apart : (s : Shape) (p q : Plain) → WellFormed s → Fits s p → Fits s q → Writable s p → Writable s q → HasNoNullDetail s p → HasNoNullDetail s q
    → read (compact_text (value s p)) ≡ Some (value s p) → read (compact_text (value s q)) ≡ Some (value s q)
    → (compact_text (value s p) ≡ compact_text (value s q)) ↔ (norm s p ≡ norm s q)
apart s p q w fits_p fits_q writable_p writable_q other_p other_q read_p read_q =
    let values = law.values_apart s p q w fits_p fits_q writable_p writable_q other_p other_q in
    (λ e. values.0 (some_same _ _ (sym read_p ∙ ap read e ∙ read_q)), λ e. ap compact_text (values.1 e))
