-- No user is both found and refused.
use Rattle.std.proofs.Common.{◌≡◌, ℕ, List, Bool, true, false, Option, Some, None, sym, ap, ◌∙◌, subst, inl, inr}
use Rattle.std.specs.Prelude.{option_and_then}
use Rattle.oci_base.specs.Classes.{colon, has}
use Rattle.oci_base.proofs.Lacks.{cut_once}
use Rattle.oci_base.proofs.Marks.{has_at, lacks_not_has}
use Rattle.oci_accounts.specs.Ids.{IsDigits, IsId}
use Rattle.oci_text.specs.declared.os.Os.{Os}
use Rattle.oci_image.specs.declared.config.Config.{Config}
use Rattle.oci_process.specs.declared.process.Process.{Process}
use Rattle.oci_process.specs.declared.user.User.{User}
use Rattle.oci_convert.specs.declared.error.ConvertError.{ConvertError}
use Rattle.oci_convert.specs.declared.error.ConvertError.TheVariants.{NoProcess, UnknownUser, UnknownGroup, NoId, Memory}
use Rattle.oci_convert.specs.Texts.{said}
use Rattle.oci_convert.specs.Users.{is_windows, IsCut, GroupOf, UserOf, IsAlone, by_id, by_name, Resolves, alone, with_group}
use Rattle.oci_convert.specs.Refusals.{RefusesPart, RefusesGroup, RefusesUser, whole, of_user, of_group, RefusesUserFor}
use Rattle.oci_convert.specs.Processes.{IsUserFor, ProcessBy}

-- a text without a colon is not cut
not_cut : (text user group : List ℕ) → has colon text ≡ false → IsCut text user group → ⊥
not_cut text user group h cut = let clash : true ≡ false = sym (ap (has colon) cut.spelled ∙ has_at colon user group) ∙ h in cc clash

-- a text is cut in one way
same_cut : (text u g v h : List ℕ) → IsCut text u g → IsCut text v h → (u ≡ v) × (g ≡ h)
same_cut text u g v h a b = cut_once colon u v g h (lacks_not_has colon u a.is_first) (lacks_not_has colon v b.is_first) (sym a.spelled ∙ b.spelled)

module _ (is_user : List ℕ → ℕ → ℕ → Type 0) (is_own_group : ℕ → ℕ → Type 0) (is_group : List ℕ → ℕ → Type 0) (are_groups : List ℕ → List ℕ → Type 0) where
  no_id : (text : List ℕ) (uid : ℕ) (e : ConvertError) → IsId text uid → RefusesPart is_user text e → ⊥
  no_id text uid UnknownUser id h = h.0 id.is_digits
  no_id text uid NoId id h = h.1 uid id
  no_id text uid NoProcess id h = h
  no_id text uid UnknownGroup id h = h
  no_id text uid Memory id h = h

  no_name : (text : List ℕ) (uid gid : ℕ) (e : ConvertError) → ¬ IsDigits text → is_user text uid gid → RefusesPart is_user text e → ⊥
  no_name text uid gid UnknownUser n is h = h.1 uid gid is
  no_name text uid gid NoId n is h = n h.0
  no_name text uid gid NoProcess n is h = h
  no_name text uid gid UnknownGroup n is h = h
  no_name text uid gid Memory n is h = h

  no_user : (text : List ℕ) (uid own : ℕ) (e : ConvertError) → UserOf is_user is_own_group text uid own → RefusesPart is_user text e → ⊥
  no_user text uid own e (inl u) h = no_id text uid e u.0 h
  no_user text uid own e (inr u) h = no_name text uid own e u.0 u.1 h

  no_group : (text : List ℕ) (gid : ℕ) (e : ConvertError) → GroupOf is_group text gid → RefusesGroup is_group text e → ⊥
  no_group text gid UnknownGroup (inl g) h = h.0 g.is_digits
  no_group text gid UnknownGroup (inr g) h = h.1 gid g.1
  no_group text gid NoId (inl g) h = h.1 gid g
  no_group text gid NoId (inr g) h = g.0 h.0
  no_group text gid NoProcess g h = h
  no_group text gid UnknownUser g h = h
  no_group text gid Memory g h = h

  not_alone : (text : List ℕ) (uid gid : ℕ) (gids : Option (List ℕ)) (e : ConvertError) → IsAlone is_user is_own_group is_group are_groups text uid gid gids → RefusesPart is_user text e → ⊥
  not_alone text uid gid _ e (by_id id own) h = no_id text uid e id h
  not_alone text uid gid _ e (by_name gids n is are) h = no_name text uid gid e n is h

  not_both : (text : List ℕ) (uid gid : ℕ) (gids : Option (List ℕ)) (e : ConvertError) → Resolves is_user is_own_group is_group are_groups text uid gid gids → RefusesUser is_user is_group text e → ⊥
  not_both text uid gid gids e (alone _ n a) (whole m h) = not_alone text uid gid gids e a h
  not_both text uid gid gids e (alone _ n a) (of_user u g cut h) = not_cut text u g n cut
  not_both text uid gid gids e (alone _ n a) (of_group u g cut h) = not_cut text u g n cut
  not_both text uid gid _ e (with_group u g own cut is of) (whole m h) = not_cut text u g m cut
  not_both text uid gid _ e (with_group u g own cut is of) (of_user v k cut' h) =
      no_user u uid own e is (subst (λ t. RefusesPart is_user t e) (sym (same_cut text u g v k cut cut').0) h)
  not_both text uid gid _ e (with_group u g own cut is of) (of_group v k cut' h) =
      no_group g gid e of (subst (λ t. RefusesGroup is_group t e) (sym (same_cut text u g v k cut cut').1) h)

  not_user : (on_windows : Bool) (text : Option (List ℕ)) (p q : User) (e : ConvertError) → IsUserFor is_user is_own_group is_group are_groups on_windows text p q → RefusesUserFor is_user is_group on_windows text e → ⊥
  not_user on_windows None p q e h r = r
  not_user true (Some text) p q e h r = r
  not_user false (Some text) p q e h r = not_both text q.uid q.gid h.gids e h.resolves r

  pub not_process : (os : Os) (config : Option Config) (p q : Process) (e : ConvertError) → ProcessBy is_user is_own_group is_group are_groups os config p q → RefusesUserFor is_user is_group (is_windows os) (option_and_then (λ c. said c.user) config) e → ⊥
  not_process os None p q e h r = r
  not_process os (Some config) p q e h r = not_user (is_windows os) (said config.user) p.user q.user e h.user r
