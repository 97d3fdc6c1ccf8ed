-- Why the answers of many calls put together are refused: because one of them is.
use Rattle.std.proofs.Common.{◌≡◌, Result, Ok, Err, subst, sym, inl, inr}
use Rattle.std.specs.Prelude.{◌⊎◌}
use Rattle.std.specs.Result.{IfErr, IsErrAnd, IsOk}
use Rattle.oci_base.specs.declared.error.OciSpecError.{OciSpecError}
use Rattle.oci_model.proofs.Together.{Answer}

this : {T : Type 0} (P : OciSpecError → Type 0) (r : Answer T) (e : OciSpecError) → r ≡ Err e → IfErr r P → P e
this P r e is told = subst (λ q. IfErr q P) is told

pub each_4 : {A B C D T : Type 0} (P : OciSpecError → Type 0) (a : Answer A) (b : Answer B) (c : Answer C) (d : Answer D) (r : Answer T)
    → IfErr a P → IfErr b P → IfErr c P → IfErr d P
    → IfErr r (λ e. (a ≡ Err e) ⊎ ((IsOk a × (b ≡ Err e)) ⊎ ((IsOk a × IsOk b × (c ≡ Err e)) ⊎ (IsOk a × IsOk b × IsOk c × (d ≡ Err e))))) → IfErr r P
each_4 P a b c d (Ok x) f g h i told = tt
each_4 P a b c d (Err e) f g h i (inl is) = this P a e is f
each_4 P a b c d (Err e) f g h i (inr (inl is)) = this P b e is.1 g
each_4 P a b c d (Err e) f g h i (inr (inr (inl is))) = this P c e is.2 h
each_4 P a b c d (Err e) f g h i (inr (inr (inr is))) = this P d e is.3 i

-- what is left with an error
pub left_with : {T : Type 0} (P : OciSpecError → Type 0) (r : Answer T) (e : OciSpecError) → IsErrAnd r (λ y. y ≡ e) → P e → IfErr r P
left_with P (Ok x) e is told = tt
left_with P (Err y) e is told = let same : y ≡ e = is in subst P (sym same) told
