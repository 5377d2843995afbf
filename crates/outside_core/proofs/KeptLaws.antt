-- What one call and then another leave unchanged.
use Rattle.std.proofs.Common.{ℕ, Bool, Option, None, Some, List, [], ◌++◌, refl, sym, ap, ◌∙◌, arith, append_assoc, append-nil, ◌≡◌, subst}
use Rattle.std.proofs.lemmas.Option.{none-some, same_Some}
use Rattle.outside_core.specs.Faults.{Rose}
use Rattle.outside_core.specs.Kept.{Begins, KeepsShelf, KeepsSink, HasCause, HasSourceCause}
use Rattle.outside_core.specs.ReadErrors.{stop_of}
use Rattle.outside_core.specs.declared.read_error.ReadError.{ReadError}
use Rattle.outside_core.specs.declared.read_error.ReadError.TheVariants.{Fault, Source, Memory}
use Rattle.outside_core.specs.declared.stop.Stop.{Stop}

-- a text begins with itself
pub Begins-same : (a : Option (List ℕ)) → Begins a a
Begins-same None = tt
Begins-same (Some now) = record { rest = []; joined = sym (append-nil now) }

-- `Begins` is transitive
pub Begins-trans : (a b c : Option (List ℕ)) → Begins a b → Begins b c → Begins a c
Begins-trans a b None p q = tt
Begins-trans a None (Some now) p q = absurd q
Begins-trans None (Some mid) (Some now) p q = absurd p
Begins-trans (Some before) (Some mid) (Some now) p q = record {
  rest = p.rest ++ q.rest;
  joined = q.joined ∙ ap (λ s. s ++ q.rest) p.joined ∙ append_assoc before p.rest q.rest;
}

module _ {K : Type 0} (written : K → Option (List ℕ)) (faults : K → ℕ) where
  pub sink-same : (k : K) → KeepsSink written faults k k
  sink-same k = record { begins = Begins-same (written k); later = omega arith }

  pub sink-then : (a b c : K) → KeepsSink written faults a b → KeepsSink written faults b c → KeepsSink written faults a c
  sink-then a b c first second = record {
    begins = Begins-trans (written a) (written b) (written c) first.begins second.begins;
    later = omega (arith, first.later, second.later);
  }

module _ {S : Type 0} (lends : S → List ℕ → Bool) (content : S → List ℕ → Option (List ℕ)) (faults : S → ℕ) where
  pub shelf-same : (s : S) → KeepsShelf lends content faults s s
  shelf-same s = record { files = record { lent = λ name. refl; contents = λ name. refl }; later = omega arith }

  pub shelf-then : (a b c : S) → KeepsShelf lends content faults a b → KeepsShelf lends content faults b c → KeepsShelf lends content faults a c
  shelf-then a b c first second = record {
    files = record {
      lent = λ name. second.files.lent name ∙ first.files.lent name;
      contents = λ name. second.files.contents name ∙ first.files.contents name;
    };
    later = omega (arith, first.later, second.later);
  }

-- ---- why work stops if a file can't be read to its end
module _ {S : Type 0} (faults : S → ℕ) (source source' : S) where
  pub read_cause : (error : ReadError) (stop : Stop) → stop_of error ≡ Some stop → (error ≡ Source → Rose (faults source) (faults source')) → HasSourceCause stop faults source source'
  read_cause (Fault c p) stop is rose = absurd (none-some stop is)
  read_cause Source stop is rose = subst (λ (s : Stop). HasSourceCause s faults source source') (same_Some _ stop is) (rose refl)
  read_cause Memory stop is rose = subst (λ (s : Stop). HasSourceCause s faults source source') (same_Some _ stop is) tt

  pub read_cause_unwritten : {K : Type 0} (error : ReadError) (stop : Stop) (written : K → ℕ) (sink sink' : K) → stop_of error ≡ Some stop → (error ≡ Source → Rose (faults source) (faults source')) → HasCause stop faults source source' written sink sink'
  read_cause_unwritten (Fault c p) stop written sink sink' is rose = absurd (none-some stop is)
  read_cause_unwritten Source stop written sink sink' is rose = subst (λ (s : Stop). HasCause s faults source source' written sink sink') (same_Some _ stop is) (rose refl)
  read_cause_unwritten Memory stop written sink sink' is rose = subst (λ (s : Stop). HasCause s faults source source' written sink sink') (same_Some _ stop is) tt
