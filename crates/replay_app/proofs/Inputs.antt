-- Each input is rejected with only one code and position, or accepted as only one value.
use Rattle.replay_app.proofs.Prelude.{subst, sym, ℕ, List, ◌≡◌, refl, ap, ◌∙◌, [], ◌∷◌, arith, length, ◌<◌, ◌≤◌, suc, ◌≢◌, All-cons, All-nil, IsEmbedding, image_map, levels, one-policy, AreAccepted, IsFault, line_of, AreRising, HasEntries, Target, Topology, complete, Tree, Address, IsPolicyRefused, IsPolicy, IsTextRefused, PolicyFile, statements_refused, text_refused, IsPlacement, HasNoRoom, IsTargetOf, IsTargetRefused, Edition}
use Rattle.std.specs.List.{All}
use Rattle.std.proofs.lemmas.List.Kept.{AllPairs-cons}
use Rattle.embed_defs.specs.Canonical.{IsCanonical}
use Rattle.policy_text_defs.specs.Sense.{Entry}
use Rattle.policy_text_defs.proofs.TextLaws.{Entries-one}
use Rattle.policy_rules.specs.Codes.{code_of}
use Rattle.policy_rules.specs.declared.fault.PolicyFault.{PolicyFault}
use Rattle.policy_rules.specs.declared.fault.PolicyFault.TheVariants.{NoMemory}
use Rattle.policy_rules.proofs.OneFault.{one-fault, accepted-fault}
use Rattle.policy_text.specs.Codes.{code_of as text_code, line_of as text_line}
use Rattle.policy_text.proofs.EntryLaws.{Rises, entries_rise}
use Rattle.policy_text.proofs.TextSteps.{entries_no_cause, one_cause}
use Rattle.events_core.specs.Script as script
use Rattle.events_core.proofs.ScriptLaws.{IsScript-one, IsFirstFault-one, IsScript-IsFirstFault}
use Rattle.target_core.proofs.OneTarget.{one_answer-holds}
use Rattle.embed_defs.proofs.EmbeddingLaws.{canonical_placements_are_one-holds}
use Rattle.replay_app.specs.Policies.{at_fault}
use Rattle.replay_app.specs.Scripts as scripts
use Rattle.replay_app.proofs.FollowLaws.{AreOne}

-- ---- a policy
one-text-refusal : (latest : Edition) (text : List ℕ) (code line d m : ℕ) → IsTextRefused latest text code line → IsTextRefused latest text d m → (code ≡ d) × (line ≡ m)
one-text-refusal latest text code line d m (at_fault f h) (at_fault g k) =
    let same : f ≡ g = one_cause latest text f g h k in
    (ap text_code same, ap text_line same)

-- a text that has statements isn't rejected
none-refused : (latest : Edition) (text : List ℕ) (es : List Entry) (code line : ℕ) → HasEntries latest text es → IsTextRefused latest text code line → ⊥
none-refused latest text es code line has (at_fault f h) = entries_no_cause latest text es f has h

-- accepted statements aren't rejected
none-faulty : (latest : Edition) (text : List ℕ) (es fs : List Entry) (f : PolicyFault) → HasEntries latest text es → AreAccepted es → HasEntries latest text fs → f ≢ NoMemory → IsFault fs f → ⊥
none-faulty latest text es fs f has are has' some is =
    let same : es ≡ fs = Entries-one _ 1 _ es fs has.entries has'.entries in
    accepted-fault fs f some is (subst AreAccepted same are)

same-fault : (latest : Edition) (text : List ℕ) (es fs : List Entry) (f g : PolicyFault) → HasEntries latest text es → f ≢ NoMemory → IsFault es f → HasEntries latest text fs → g ≢ NoMemory → IsFault fs g → f ≡ g
same-fault latest text es fs f g has some is has' some' is' =
    let same : es ≡ fs = Entries-one _ 1 _ es fs has.entries has'.entries in
    one-fault fs f g some some' (subst (λ xs. IsFault xs f) same is) is'

one-policy-refusal : (latest : Edition) (text : List ℕ) (code line d m : ℕ) → IsPolicyRefused latest text code line → IsPolicyRefused latest text d m → (code ≡ d) × (line ≡ m)
one-policy-refusal latest text code line d m (text_refused _ _ h) (text_refused _ _ k) = one-text-refusal latest text code line d m h k
one-policy-refusal latest text code line d m (text_refused _ _ h) (statements_refused fs g k some is) = absurd (none-refused latest text fs code line k h)
one-policy-refusal latest text code line d m (statements_refused es f h some is) (text_refused _ _ k) = absurd (none-refused latest text es d m h k)
one-policy-refusal latest text code line d m (statements_refused es f h some is) (statements_refused fs g k some' is') =
    let same : f ≡ g = same-fault latest text es fs f g h some is k some' is' in
    (ap code_of same, ap line_of same)

none-refused-policy : (latest : Edition) (text : List ℕ) (j : PolicyFile) (code line : ℕ) → IsPolicy latest text j → IsPolicyRefused latest text code line → ⊥
none-refused-policy latest text j code line p (text_refused _ _ h) = none-refused latest text j.entries code line p.has h
none-refused-policy latest text j code line p (statements_refused fs g k some is) = none-faulty latest text j.entries fs g p.has p.accepted k some is

-- the line numbers of a text's statements rise
later : (k n : ℕ) (es : List Entry) → k < n → Rises n es → All (λ e. k < e.0) es
later k n [] less up = All-nil (λ e. k < e.0)
later k n (e ∷ es) less up = let first : n ≤ e.0 = up.0 in All-cons (λ d. k < d.0) e es (omega arith) (later k (suc e.0) es (omega arith) up.1)

pub rising : (n : ℕ) (es : List Entry) → Rises n es → AreRising es
rising n [] up = λ i j d less within. absurd (omega arith)
rising n (e ∷ es) up = AllPairs-cons (λ a b. a.0 < b.0) e es (later e.0 (suc e.0) es (omega arith) up.1) (rising (suc e.0) es up.1)

-- a text gives only one policy
same-policy_file : (latest : Edition) (text : List ℕ) (j k : PolicyFile) → IsPolicy latest text j → IsPolicy latest text k → j ≡ k
same-policy_file latest text j k p q =
    let statements : j.entries ≡ k.entries = Entries-one _ 1 _ j.entries k.entries p.has.entries q.has.entries in
    let accepted : AreAccepted k.entries = q.accepted in
    let own = subst (λ (es : List Entry). IsPolicy latest text (record { entries = es; policy = j.policy })) statements p in
    let policies : j.policy ≡ k.policy = one-policy k.entries j.policy k.policy (rising 1 k.entries (entries_rise _ 1 _ k.entries q.has.entries)) accepted own.gives q.gives in
    λ i. record { entries = statements i; policy = policies i }

pub policies_are_one : (latest : Edition) (text : List ℕ) → AreOne (IsPolicyRefused latest text) (IsPolicy latest text)
policies_are_one latest text = record { one_refusal = one-policy-refusal latest text; one = same-policy_file latest text; no_both = none-refused-policy latest text }

-- ---- a target
pub targets_are_one : (text : List ℕ) → AreOne (IsTargetRefused text) (IsTargetOf text)
targets_are_one text = record {
  one_refusal = λ code place d m h k. (one_answer-holds.one_fault text code d h.0 k.0, h.1 ∙ sym k.1);
  one = λ t u h k. (let same = one_answer-holds.one_target text t.arities u.arities t.above u.above h k in λ i. record { arities = same.0 i; above = same.1 i });
  no_both = λ t code place h k. one_answer-holds.no_both text t.arities t.above code h k.0;
}

-- ---- room
pub rooms_are_one : (s : Topology) (target : Target) → AreOne (HasNoRoom s target) (IsPlacement s target)
rooms_are_one s target = record {
  one_refusal = λ code place d m h k. (h.1 ∙ sym k.1, h.2 ∙ sym k.2);
  one = λ m n h k. canonical_placements_are_one-holds _ _ _ m n h.canonical k.canonical;
  no_both = λ m code place h k. k.0 (_, h.embedding);
}

-- a placement of a topology is a placement of an equal topology
pub placement : (same : Topology) (t : Target) (images : Tree Address) (s : Topology) → s ≡ same → IsCanonical (levels t.arities t.above) (length t.arities) s images
    → IsEmbedding s (complete t.arities) (image_map images) → IsPlacement same t images
placement same t images s e canonical embeds = record {
  canonical = subst (λ (u : Topology). IsCanonical (levels t.arities t.above) (length t.arities) u images) e canonical;
  embedding = subst (λ (u : Topology). IsEmbedding u (complete t.arities) (image_map images)) e embeds;
}

-- ---- a script
one-script-refusal : (text : List ℕ) (code line d m : ℕ) → scripts.IsScriptRefused text code line → scripts.IsScriptRefused text d m → (code ≡ d) × (line ≡ m)
one-script-refusal text code line d m (scripts.too_long h) (scripts.too_long k) = (refl, refl)
one-script-refusal text code line d m (scripts.too_long h) (scripts.at_fault f k) = let short : length text ≤ script.most_bytes = k.short in absurd (omega arith)
one-script-refusal text code line d m (scripts.at_fault f h) (scripts.too_long k) = let short : length text ≤ script.most_bytes = h.short in absurd (omega arith)
one-script-refusal text code line d m (scripts.at_fault f h) (scripts.at_fault g k) =
    let same = IsFirstFault-one text f g h k in
    (ap script.code_of same, ap script.place_of same)

none-refused-script : (text : List ℕ) (steps : List _) (code line : ℕ) → script.IsScript text steps → scripts.IsScriptRefused text code line → ⊥
none-refused-script text steps code line is (scripts.too_long h) = let short : length text ≤ script.most_bytes = is.short in absurd (omega arith)
none-refused-script text steps code line is (scripts.at_fault f h) = IsScript-IsFirstFault text steps f is h

pub scripts_are_one : (text : List ℕ) → AreOne (scripts.IsScriptRefused text) (script.IsScript text)
scripts_are_one text = record { one_refusal = one-script-refusal text; one = λ s t h k. IsScript-one text s t h k; no_both = none-refused-script text }
