-- The laws of the schema.
use Rattle.std.proofs.Common.{◌≡◌, ◌∙◌, sym, ap, subst}
use Rattle.std.specs.Prelude.{◌↔◌}
use Rattle.serde_json.specs.Data.{Data}
use Rattle.oci_model.specs.Plain.{Plain}
use Rattle.oci_model.specs.Shape.{Shape}
use Rattle.oci_model.specs.Fits.{Fits}
use Rattle.oci_model.specs.Means.{Means}
use Rattle.oci_model.specs.Value.{value}
use Rattle.oci_model.specs.Norm.{norm}
use Rattle.oci_model.specs.Writable.{Writable}
use Rattle.oci_model.specs.WellFormed.{WellFormed}
use Rattle.oci_json.specs.Details.{HasNoNullDetail}
use Rattle.oci_json.proofs.OneMeaning as meaning
use Rattle.oci_json.proofs.Meanings.{allowed}
use Rattle.oci_json.proofs.ReadsBack.{read_back, never_null}
use Rattle.oci_json.proofs.Stable.{stable, same_value}
use Rattle.oci_json.proofs.NoNullDetail.{meaning_has_no_null}

-- the written value means the normal form
pub means_norm : (s : Shape) (p : Plain) → WellFormed s → Fits s p → Writable s p → Means s (value s p) (norm s p)
means_norm s p well fits writable = read_back s (allowed s well) p fits writable (never_null s p well)

-- it means nothing else
pub reads_back : (s : Shape) (p q : Plain) → WellFormed s → Fits s p → Writable s p → Means s (value s p) q ↔ (q ≡ norm s p)
reads_back s p q well fits writable =
    let m = means_norm s p well fits writable in
    (λ h. meaning.one_meaning s (value s p) q (norm s p) h m, λ e. subst (Means s (value s p)) (sym e) m)

-- the normal form is stable
pub norm_stable : (s : Shape) (p : Plain) → WellFormed s → Fits s p → Writable s p
    → Fits s (norm s p) × Writable s (norm s p) × (norm s (norm s p) ≡ norm s p)
norm_stable s p well fits writable = stable s (allowed s well) p fits writable

-- equal values have one normal form, and equal normal forms one value
pub values_apart : (s : Shape) (p q : Plain) → WellFormed s → Fits s p → Fits s q → Writable s p → Writable s q
    → HasNoNullDetail s p → HasNoNullDetail s q
    → (value s p ≡ value s q) ↔ (norm s p ≡ norm s q)
values_apart s p q well fits_p fits_q writable_p writable_q other_p other_q =
    let m = means_norm s p well fits_p writable_p in
    let n = means_norm s q well fits_q writable_q in
    let may = allowed s well in (
      λ e. meaning.one_meaning s (value s q) (norm s p) (norm s q) (subst (λ v. Means s v (norm s p)) e m) n,
      λ e. sym (same_value s may p writable_p other_p) ∙ ap (value s) e ∙ same_value s may q writable_q other_q,
    )

-- the normal form has the same value
pub twice_is_once : (s : Shape) (v : Data) (p : Plain) → WellFormed s → Means s v p → Writable s p
    → value s (norm s p) ≡ value s p
twice_is_once s v p well means writable =
    same_value s (allowed s well) p writable (meaning_has_no_null s v p well means)
