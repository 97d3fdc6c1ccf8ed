-- Data that is known by what was found in it.
use Rattle.std.proofs.Common.{◌≡◌, ◌∙◌, ℕ, List, Bool, true, Option, Some, None}
use Rattle.std.specs.Prelude.{is_some, IfSome}
use Rattle.json.specs.Token.{Token}
use Rattle.serde_json.specs.Data.{Num, Data, null, boolean, number, string, array, object}
use Rattle.serde_json.specs.Find.{as_null, as_bool, as_number, as_str}
use Rattle.serde_json.specs.View.{view}
use Rattle.serde_json.specs.declared.value.Value.{Value}
use Rattle.oci_json_tape.specs.Elements.{BeginsWithData}

pub string_kept : (d : Data) (t : List ℕ) → Some t ≡ as_str d → string t ≡ d
string_kept null t e = cc
string_kept (boolean b) t e = cc
string_kept (number n) t e = cc
string_kept (string s) t e = cc
string_kept (array ds) t e = cc
string_kept (object ms) t e = cc

pub number_kept : (d : Data) (n : Num) → Some n ≡ as_number d → number n ≡ d
number_kept null n e = cc
number_kept (boolean b) n e = cc
number_kept (number m) n e = cc
number_kept (string s) n e = cc
number_kept (array ds) n e = cc
number_kept (object ms) n e = cc

pub boolean_kept : (d : Data) (b : Bool) → Some b ≡ as_bool d → boolean b ≡ d
boolean_kept null b e = cc
boolean_kept (boolean c) b e = cc
boolean_kept (number n) b e = cc
boolean_kept (string s) b e = cc
boolean_kept (array ds) b e = cc
boolean_kept (object ms) b e = cc

pub null_kept : (d : Data) → true ≡ is_some (as_null d) → null ≡ d
null_kept null e = cc
null_kept (boolean b) e = cc
null_kept (number n) e = cc
null_kept (string s) e = cc
null_kept (array ds) e = cc
null_kept (object ms) e = cc

-- the value of the number that was found
pub number_made : (o : Option Value) (ts : List Token) (n : Num) → ((d : Data) → BeginsWithData ts d → Some n ≡ as_number d) → IfSome o (λ v. view v ≡ number n)
    → IfSome o (λ v. (d : Data) → BeginsWithData ts d → view v ≡ d)
number_made None ts n found is = tt
number_made (Some v) ts n found is = λ d b. is ∙ number_kept d n (found d b)
