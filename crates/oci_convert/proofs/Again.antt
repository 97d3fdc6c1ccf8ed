-- What is converted again is as it was: arguments, environments, annotations and processes.
use Rattle.std.proofs.Common.{◌≡◌, ℕ, List, [], ◌∷◌, ◌++◌, ◌||◌, ◌⊎◌, Bool, true, false, not, cond, Option, Some, None, Vec, refl, sym, ap, ◌∙◌, append_assoc, append-nil, inl, inr, string_bytes, Global}
use Rattle.std.specs.Prelude.{bytes_eq, filter, unwrap_or}
use Rattle.std.specs.Option.{option_or}
use Rattle.std.specs.List.{list_any}
use Rattle.std.proofs.lemmas.List.Elements.{filter-append}
use Rattle.std.proofs.lemmas.Slice.Eq.{bytes_eq-Decides}
use Rattle.oci_text.specs.declared.os.Os.{Os}
use Rattle.oci_image.specs.declared.config.Config.{Config}
use Rattle.oci_process.specs.declared.process.Process.{Process}
use Rattle.oci_process.specs.declared.user.User.{User}
use Rattle.oci_convert.specs.Texts.{texts_of, list_of, said}
use Rattle.oci_convert.specs.Verbatim.{arguments, environment, name_of, sets}
use Rattle.oci_convert.specs.Users.{is_windows}
use Rattle.oci_convert.specs.Processes.{GroupsBy, IsPosixUser, IsUserFor, ProcessBy}

-- ---- arguments and environments

arguments_twice : (args : List (List ℕ)) (a b : Option (List (List ℕ))) → b ≡ arguments args a → b ≡ arguments args b
arguments_twice [] a b h = refl
arguments_twice (x ∷ args) a b h = h

pub any_left : {X : Type 0} (p : X → Bool) (xs ys : List X) → list_any p xs ≡ true → list_any p (xs ++ ys) ≡ true
any_left p [] ys h = cc h
any_left p (x ∷ xs) ys h = go (p x) h (any_left p xs ys)
  where
    go : (b : Bool) → (b || list_any p xs) ≡ true → (list_any p xs ≡ true → list_any p (xs ++ ys) ≡ true) → (b || list_any p (xs ++ ys)) ≡ true
    go true k rec = refl
    go false k rec = rec k

pub any_at : {X : Type 0} (p : X → Bool) (xs : List X) (x : X) (ys : List X) → p x ≡ true → list_any p (xs ++ x ∷ ys) ≡ true
any_at p [] x ys h = rw h refl
any_at p (y ∷ xs) x ys h = go (p y) (any_at p xs x ys h)
  where
    go : (b : Bool) → list_any p (xs ++ x ∷ ys) ≡ true → (b || list_any p (xs ++ x ∷ ys)) ≡ true
    go true k = refl
    go false k = k

-- the entries of an environment that it does not set itself: none
own_others : (front back : List (List ℕ)) → filter (λ e. not (sets (front ++ back) e)) back ≡ []
own_others front [] = refl
own_others front (e ∷ back) =
    let here : sets (front ++ e ∷ back) e ≡ true = any_at (λ other. bytes_eq (name_of e) (name_of other)) front e back ((bytes_eq-Decides (name_of e) (name_of e)).1 refl) in
    let rest : filter (λ x. not (sets ((front ++ e ∷ []) ++ back) x)) back ≡ [] = own_others (front ++ e ∷ []) back in
    rw here (rw append_assoc at rest)

filter_twice : {X : Type 0} (p : X → Bool) (xs : List X) → filter p (filter p xs) ≡ filter p xs
filter_twice p [] = refl
filter_twice p (x ∷ xs) = go (p x) refl (filter_twice p xs)
  where
    go : (b : Bool) → p x ≡ b → filter p (filter p xs) ≡ filter p xs → filter p (cond b (x ∷ filter p xs) (filter p xs)) ≡ cond b (x ∷ filter p xs) (filter p xs)
    go true e rec = rw e (ap (λ ys. x ∷ ys) rec)
    go false e rec = rec

environment_twice : (env a b : Option (List (List ℕ))) → b ≡ environment env a → b ≡ environment env b
environment_twice None a b h = refl
environment_twice (Some env) a b h = h ∙ sym (ap (λ x. environment (Some env) x) h ∙ ap Some (same (unwrap_or a [])))
  where
    same : (xs : List (List ℕ)) → filter (λ e. not (sets env e)) (filter (λ e. not (sets env e)) xs ++ env) ++ env ≡ filter (λ e. not (sets env e)) xs ++ env
    same xs =
        ap (λ ys. ys ++ env) (filter-append (λ e. not (sets env e)) (filter (λ e. not (sets env e)) xs) env
        ∙ ap (λ ys. ys ++ filter (λ e. not (sets env e)) env) (filter_twice (λ e. not (sets env e)) xs)
        ∙ ap (λ ys. filter (λ e. not (sets env e)) xs ++ ys) (own_others [] env) ∙ append-nil (filter (λ e. not (sets env e)) xs))

unless_twice : {X : Type 0} (o : Option X) (a b : X) → b ≡ unwrap_or o a → b ≡ unwrap_or o b
unless_twice None a b h = refl
unless_twice (Some x) a b h = h

-- ---- annotations

pub either_twice : {X : Type 0} (l i a b : Option X) → b ≡ option_or l (option_or i a) → b ≡ option_or l (option_or i b)
either_twice None None a b h = refl
either_twice None (Some x) a b h = h
either_twice (Some x) i a b h = h

pub said_by_one : {X : Type 0} (l i a b : Option X) (x : X) → b ≡ option_or l (option_or i a) → b ≡ Some x → (l ≡ Some x) ⊎ ((i ≡ Some x) ⊎ (a ≡ Some x))
said_by_one None None a b x h e = inr (inr (sym h ∙ e))
said_by_one None (Some y) a b x h e = inr (inl (sym h ∙ e))
said_by_one (Some y) i a b x h e = inl (sym h ∙ e)

groups_twice : (gids : Option (List ℕ)) (before after : Option (Vec ℕ Global)) → GroupsBy gids before after → GroupsBy gids after after
groups_twice None before after h = refl
groups_twice (Some gids) before after h = h

module _ (is_user : List ℕ → ℕ → ℕ → Type 0) (is_own_group : ℕ → ℕ → Type 0) (is_group : List ℕ → ℕ → Type 0) (are_groups : List ℕ → List ℕ → Type 0) where
  posix_twice : (text : List ℕ) (p q : User) → IsPosixUser is_user is_own_group is_group are_groups text p q → IsPosixUser is_user is_own_group is_group are_groups text q q
  posix_twice text p q h = record { gids = h.gids; resolves = h.resolves; groups = groups_twice h.gids p.additional_gids q.additional_gids h.groups; others = refl }

  user_twice : (on_windows : Bool) (text : Option (List ℕ)) (p q : User) → IsUserFor is_user is_own_group is_group are_groups on_windows text p q → IsUserFor is_user is_own_group is_group are_groups on_windows text q q
  user_twice on_windows None p q h = refl
  user_twice true (Some text) p q h = record { name = h.name; others = refl }
  user_twice false (Some text) p q h = posix_twice text p q h

  pub process_twice : (os : Os) (config : Option Config) (p q : Process) → ProcessBy is_user is_own_group is_group are_groups os config p q → ProcessBy is_user is_own_group is_group are_groups os config q q
  process_twice os None p q h = refl
  process_twice os (Some config) p q h = record {
    args = arguments_twice (texts_of config.entrypoint ++ texts_of config.cmd) (list_of p.args) (list_of q.args) h.args;
    env = environment_twice (list_of config.env) (list_of p.env) (list_of q.env) h.env;
    cwd = unless_twice (said config.working_dir) (string_bytes p.cwd) (string_bytes q.cwd) h.cwd;
    user = user_twice (is_windows os) (said config.user) p.user q.user h.user;
    others = refl;
  }
