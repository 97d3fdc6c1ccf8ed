-- Where contents lie.
use Rattle.std.proofs.Common.{◌≡◌, ℕ, ◌<◌, Bool, true, false, List, [], ◌∷◌, ◌++◌, length, refl, sym, ap, ◌∙◌, subst, arith}
use Rattle.oci_base.specs.Classes.{is_lower, is_joint, is_encoded_byte, slash, IsSomeOf, IsOneOf, one, more}
use Rattle.oci_base.specs.Digest.{IsAlgorithm, IsDigest}
use Rattle.oci_base.specs.Names.{name_text, opened, is_listed}
use Rattle.oci_base.proofs.Lacks.{both, lacks_joined, lacks_one, lacks_some}
use Rattle.oci_base.proofs.Marks.{has_none}
use Rattle.oci_layout.specs.Paths.{IsPlainName}

-- a text that is opened keeps its bytes
pub opened_text : (table : List (List ℕ)) (text : List ℕ) → name_text (opened table text) ≡ text
opened_text table text = by (is_listed table text) refl
  where
    by : (b : Bool) → is_listed table text ≡ b → name_text (opened table text) ≡ text
    by true e = rw e refl
    by false e = rw e refl

-- the first byte of a joined text is one of its first part
first_lower : (text : List ℕ) → IsAlgorithm text → (b : ℕ) × (rest : List ℕ) × (text ≡ b ∷ rest) × (is_lower b ≡ true)
first_lower [] (one part h) = absurd (let k = h.0 in omega arith)
first_lower (b ∷ rest) (one part h) = (b, rest, refl, (both (is_lower b) _ h.1).0)
first_lower text (more front separator part j s p) =
    let (b, rest, e, low) = first_lower front j in
    (b, rest ++ separator ++ part, ap (λ t. t ++ separator ++ part) e, low)

plain_algorithm : (text : List ℕ) → IsAlgorithm text → IsPlainName text
plain_algorithm text h =
    let (b, rest, e, low) = first_lower text h in
    record {
      some = subst (λ t. 0 < length t) (sym e) (omega arith);
      no_slash = has_none slash text (lacks_joined slash (IsOneOf is_joint) (IsSomeOf is_lower) (λ s. lacks_one is_joint slash refl s) (λ p. lacks_some is_lower slash refl p) text h);
      not_this = λ is. let dot : b ≡ 46 = cc (sym e ∙ is) in cc (sym low ∙ ap is_lower dot);
      not_above = λ is. let dot : b ≡ 46 = cc (sym e ∙ is) in cc (sym low ∙ ap is_lower dot);
    }

plain_encoded : (text : List ℕ) → IsSomeOf is_encoded_byte text → IsPlainName text
plain_encoded [] h = absurd (let k = h.0 in omega arith)
plain_encoded (b ∷ rest) h =
    let good : is_encoded_byte b ≡ true = (both (is_encoded_byte b) _ h.1).0 in
    record {
      some = h.0;
      no_slash = has_none slash (b ∷ rest) (lacks_some is_encoded_byte slash refl (b ∷ rest) h);
      not_this = λ is. let dot : b ≡ 46 = cc is in cc (sym good ∙ ap is_encoded_byte dot);
      not_above = λ is. let dot : b ≡ 46 = cc is in cc (sym good ∙ ap is_encoded_byte dot);
    }

pub plain_parts : (text algorithm encoded : List ℕ) → IsDigest text algorithm encoded → IsPlainName algorithm × IsPlainName encoded
plain_parts text algorithm encoded d = (plain_algorithm algorithm d.is_algorithm, plain_encoded encoded d.is_encoded)
