-- What a text of `Config.User` stands for, by what its parts do.
use Rattle.std.proofs.Common.{◌≡◌, ◌≢◌, ◌⊎◌, ℕ, List, Result, Ok, Err, None, false, IfOk, IfErr, sym, subst, inl, inr}
use Rattle.std.specs.Prelude.{option_map, Option, Vec}
use Rattle.std.specs.declared.alloc.Global.{Global}
use Rattle.oci_base.specs.Classes.{colon, has}
use Rattle.oci_convert.specs.declared.error.ConvertError.{ConvertError}
use Rattle.oci_convert.specs.declared.error.ConvertError.TheVariants.{Memory}
use Rattle.oci_convert.specs.declared.user.Resolved.{Resolved}
use Rattle.oci_convert.specs.Users.{IsCut, GroupOf, UserOf, IsAlone, Resolves, alone, with_group}
use Rattle.oci_convert.specs.Refusals.{RefusesPart, RefusesGroup, RefusesUser, whole, of_user, of_group}

-- the additional groups that are said
abbrev pub groups_said : Option (Vec ℕ Global) → Option (List ℕ)
groups_said gids = option_map (λ v. v.items) gids

module _ (is_user : List ℕ → ℕ → ℕ → Type 0) (is_own_group : ℕ → ℕ → Type 0) (is_group : List ℕ → ℕ → Type 0) (are_groups : List ℕ → List ℕ → Type 0) where
  pub cut_ok : (text user group u k : List ℕ) (r : Result Resolved ConvertError) → IsCut text user group → u ≡ user → k ≡ group
      → IfOk r (λ x. (own : ℕ) × UserOf is_user is_own_group u x.uid own × GroupOf is_group k x.gid × (x.additional_gids ≡ None))
      → IfOk r (λ x. Resolves is_user is_own_group is_group are_groups text x.uid x.gid (groups_said x.additional_gids))
  cut_ok text user group u k (Ok x) cut e f h =
      subst (λ (gids : Option (Vec ℕ Global)). Resolves is_user is_own_group is_group are_groups text x.uid x.gid (groups_said gids)) (sym h.3)
      (with_group user group h.0 cut (subst (λ (t : List ℕ). UserOf is_user is_own_group t x.uid h.0) e h.1) (subst (λ (t : List ℕ). GroupOf is_group t x.gid) f h.2))
  cut_ok text user group u k (Err e) cut _ _ h = tt

  pub whole_ok : (text t : List ℕ) (r : Result Resolved ConvertError) → has colon text ≡ false → t ≡ text
      → IfOk r (λ x. IsAlone is_user is_own_group is_group are_groups t x.uid x.gid (groups_said x.additional_gids))
      → IfOk r (λ x. Resolves is_user is_own_group is_group are_groups text x.uid x.gid (groups_said x.additional_gids))
  whole_ok text t (Ok x) none e h =
      alone (groups_said x.additional_gids) none (subst (λ (s : List ℕ). IsAlone is_user is_own_group is_group are_groups s x.uid x.gid (groups_said x.additional_gids)) e h)
  whole_ok text t (Err e) none _ h = tt

pub cut_err : (is_user : List ℕ → ℕ → ℕ → Type 0) (is_group : List ℕ → ℕ → Type 0) (text user group u k : List ℕ) (r : Result Resolved ConvertError) → IsCut text user group → u ≡ user → k ≡ group
    → IfErr r (λ e. RefusesPart is_user u e ⊎ RefusesGroup is_group k e) → IfErr r (λ e. e ≢ Memory → RefusesUser is_user is_group text e)
cut_err is_user is_group text user group u k (Ok x) cut e f h = tt
cut_err is_user is_group text user group u k (Err x) cut e f (inl h) = λ _. of_user user group cut (subst (λ (t : List ℕ). RefusesPart is_user t x) e h)
cut_err is_user is_group text user group u k (Err x) cut e f (inr h) = λ _. of_group user group cut (subst (λ (t : List ℕ). RefusesGroup is_group t x) f h)

pub whole_err : (is_user : List ℕ → ℕ → ℕ → Type 0) (is_group : List ℕ → ℕ → Type 0) (text t : List ℕ) (r : Result Resolved ConvertError) → has colon text ≡ false → t ≡ text
    → IfErr r (λ e. e ≢ Memory → RefusesPart is_user t e) → IfErr r (λ e. e ≢ Memory → RefusesUser is_user is_group text e)
whole_err is_user is_group text t (Ok x) none e h = tt
whole_err is_user is_group text t (Err x) none e h = λ other. whole none (subst (λ (s : List ℕ). RefusesPart is_user s x) e (h other))
