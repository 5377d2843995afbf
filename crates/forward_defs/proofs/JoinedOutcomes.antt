-- The records of outcomes in a row are those of a prefix, followed by those of the others.
use Rattle.forward_defs.proofs.Prelude.{List, [], refl, ℕ, ◌∷◌, ◌≡◌, ap, ◌++◌, sym, ◌∙◌, append_assoc, Outcome, Captured, Keeping, keeps, kept_behind, records_of, record_of}

pub kept_behind-append : (captured : Captured) (k : Keeping) (os ps : List Outcome) → kept_behind captured k (os ++ ps) ≡ kept_behind captured (kept_behind captured k os) ps
kept_behind-append captured k [] ps = refl
kept_behind-append captured k (o ∷ os) ps = kept_behind-append captured (keeps captured k o) os ps

pub records_of-append : (captured : Captured) (k : Keeping) (os ps : List Outcome)
    → records_of captured k (os ++ ps) ≡ records_of captured k os ++ records_of captured (kept_behind captured k os) ps
records_of-append captured k [] ps = refl
records_of-append captured k (o ∷ os) ps =
    ap (λ (x : List ℕ). record_of k o ++ x) (records_of-append captured (keeps captured k o) os ps)
    ∙ sym (append_assoc (record_of k o) (records_of captured (keeps captured k o) os) (records_of captured (kept_behind captured (keeps captured k o) os) ps))
