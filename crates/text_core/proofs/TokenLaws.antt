-- A line has either one list of tokens or one error, and its meaning is that of its tokens.
use Rattle.text_core.proofs.Prelude.{length, ◌≡◌, arith, ◌+◌, List, [], ap, drop, sym, ◌∷◌, subst, take, ◌∙◌, ◌≤◌, Some, refl, ℕ, ◌-◌, ◌++◌, ◌<◌, None, suc, get_or, length-drop, inl, zero, inr, ◌⊎◌, All, ◌↔◌, Glyph, AreSaid, said, SaysIn, SaysFromIn, skipped, token_text, StandIn, begun, token_in, IsFaultIn, Begun, IsBadIn, StandsIn, Token, Dialect}
use Rattle.text_core.specs.declared.token.TokenFault.{TokenFault}
use Rattle.text_core.specs.declared.token.TokenFault.TheVariants as fault
use Rattle.text_core.specs.declared.refusal.Refusal.TheVariants as refusal
use Rattle.text_core.specs.Refusals.{refusal_of}
use Rattle.text_core.proofs.LineLaws.{drop-drop, drop-over}
use Rattle.text_core.proofs.SaysLaws.{pick, none_in, skipped-at, StandIn-SaysIn}

module _ (d : Dialect) where
  -- a token begins in only one way
  pub same_kind : (bs : List ℕ) (a b : Begun) → token_in d bs ≡ Some a → token_in d bs ≡ Some b → a.0 ≡ b.0
  same_kind bs a b p q = ap (λ v. pick v a.0 (λ x. x.0)) (sym p ∙ q)

  pub same_length : (bs : List ℕ) (a b : Begun) → token_in d bs ≡ Some a → token_in d bs ≡ Some b → a.1 ≡ b.1
  same_length bs a b p q = ap (λ v. pick v a.1 (λ x. x.1)) (sym p ∙ q)

  clash : (bs : List ℕ) (a : Begun) → token_in d bs ≡ Some a → token_in d bs ≡ None → ⊥
  clash bs a p q = let wrong : Some a ≡ None = sym p ∙ q in cc

  -- each span lies in the line
  pub Stand-All : (line : List ℕ) (from : ℕ) (ts : List Token) (to : ℕ) → StandIn d line from ts to → All (StandsIn line) ts
  Stand-All line from [] to stand k d inside = absurd (omega arith)
  Stand-All line from (t ∷ ts) to stand zero d inside = (stand.1, stand.2)
  Stand-All line from (t ∷ ts) to stand (suc k) d inside = Stand-All line t.end ts to stand.4 k d (omega arith)

  -- no token begins there: the line is over, or a byte is invalid
  abbrev IsOver : List ℕ → ℕ → Type 0
  IsOver line to = (length line ≤ to) ⊎ IsBadIn d line to

  over_none : (line : List ℕ) (to : ℕ) → IsOver line to → token_in d (drop to line) ≡ None
  over_none line to (inl over) = ap (token_in d) (drop-over to line over) ∙ none_in d
  over_none line to (inr bad) = bad.none

  -- tokens cover a line up to one offset only
  pub Stand-one : (line : List ℕ) (from : ℕ) (ts us : List Token) (p q : ℕ) → StandIn d line from ts p → IsOver line p → StandIn d line from us q → IsOver line q → p ≡ q
  Stand-one line from [] [] p q a over b end = a ∙ sym b
  Stand-one line from [] (u ∷ us) p q a over b end =
      let none : token_in d (drop u.start line) ≡ None = ap (λ n. token_in d (drop n line)) (b.0 ∙ sym a) ∙ over_none line p over in
      absurd (clash (drop u.start line) (begun u.kind (u.end - u.start)) b.3 none)
  Stand-one line from (t ∷ ts) [] p q a over b end =
      let none : token_in d (drop t.start line) ≡ None = ap (λ n. token_in d (drop n line)) (a.0 ∙ sym b) ∙ over_none line q end in
      absurd (clash (drop t.start line) (begun t.kind (t.end - t.start)) a.3 none)
  Stand-one line from (t ∷ ts) (u ∷ us) p q a over b end =
      let start : u.start ≡ t.start = b.0 ∙ sym a.0 in
      let token : token_in d (drop t.start line) ≡ Some (begun u.kind (u.end - u.start)) = ap (λ n. token_in d (drop n line)) (sym start) ∙ b.3 in
      let len : t.end - t.start ≡ u.end - u.start = same_length (drop t.start line) (begun t.kind (t.end - t.start)) (begun u.kind (u.end - u.start)) a.3 token in
      let rises = a.1 in
      let rises_too = b.1 in
      let same : u.end ≡ t.end = omega arith in
      Stand-one line t.end ts us p q a.4 over (subst (λ n. StandIn d line n us q) same b.4) end

  -- the tokens of a line have the meaning of its bytes
  pub Says-AreSaid : (line : List ℕ) (from : ℕ) (ts : List Token) (gs : List Glyph) → StandIn d line from ts (length line) → SaysIn d (drop from line) gs → AreSaid line ts gs
  Says-AreSaid line from [] [] stand say = tt
  Says-AreSaid line from [] (g ∷ gs) stand say =
      let none : token_in d (skipped (drop from line)) ≡ None = ap (token_in d) (skipped-at line from ∙ ap (λ n. drop n line) (sym stand) ∙ drop-over (length line) line (omega arith)) ∙ none_in d in
      absurd (clash (skipped (drop from line)) (begun say.0 say.1) say.2 none)
  Says-AreSaid line from (t ∷ ts) [] stand say =
      let none : token_in d (drop t.start line) ≡ None = ap (token_in d) (ap (λ n. drop n line) stand.0 ∙ sym (skipped-at line from) ∙ say) ∙ none_in d in
      absurd (clash (drop t.start line) (begun t.kind (t.end - t.start)) stand.3 none)
  Says-AreSaid line from (t ∷ ts) (g ∷ gs) stand say =
      let at : skipped (drop from line) ≡ drop t.start line = skipped-at line from ∙ ap (λ n. drop n line) (sym stand.0) in
      let token : token_in d (drop t.start line) ≡ Some (begun say.0 say.1) = ap (token_in d) (sym at) ∙ say.2 in
      let kind : say.0 ≡ t.kind = same_kind (drop t.start line) (begun say.0 say.1) (begun t.kind (t.end - t.start)) token stand.3 in
      let len : say.1 ≡ t.end - t.start = same_length (drop t.start line) (begun say.0 say.1) (begun t.kind (t.end - t.start)) token stand.3 in
      let is : said t.kind (take (t.end - t.start) (drop t.start line)) ≡ Some g =
      ap (λ k. said k (take (t.end - t.start) (drop t.start line))) (sym kind) ∙ ap (λ n. said say.0 (take n (drop t.start line))) (sym len) ∙ ap (λ l. said say.0 (take say.1 l)) (sym at) ∙ say.3 in
      let rises = stand.1 in
      let end : t.start + say.1 ≡ t.end = omega arith in
      let behind : drop say.1 (skipped (drop from line)) ≡ drop t.end line = ap (drop say.1) at ∙ drop-drop t.start say.1 line ∙ ap (λ n. drop n line) end in
      let P : List ℕ → Type 0 = λ l. SaysFromIn d (skipped l) gs in
      (is, Says-AreSaid line t.end ts gs stand.4 (subst P behind say.4))

  -- a line with an error has no meaning
  pub Fault-silent : (line : List ℕ) (from : ℕ) (ts : List Token) (p : ℕ) (gs : List Glyph) → StandIn d line from ts p → IsBadIn d line p → SaysIn d (drop from line) gs → ⊥
  Fault-silent line from [] p [] stand bad say =
      let left : length (drop p line) ≡ 0 = ap length (ap (λ n. drop n line) stand ∙ sym (skipped-at line from) ∙ say) in
      let size = length-drop p line in
      let inside = bad.inside in
      omega arith
  Fault-silent line from [] p (g ∷ gs) stand bad say =
      let none : token_in d (skipped (drop from line)) ≡ None = ap (token_in d) (skipped-at line from ∙ ap (λ n. drop n line) (sym stand)) ∙ bad.none in
      clash (skipped (drop from line)) (begun say.0 say.1) say.2 none
  Fault-silent line from (t ∷ ts) p [] stand bad say =
      let none : token_in d (drop t.start line) ≡ None = ap (token_in d) (ap (λ n. drop n line) stand.0 ∙ sym (skipped-at line from) ∙ say) ∙ none_in d in
      clash (drop t.start line) (begun t.kind (t.end - t.start)) stand.3 none
  Fault-silent line from (t ∷ ts) p (g ∷ gs) stand bad say =
      let at : skipped (drop from line) ≡ drop t.start line = skipped-at line from ∙ ap (λ n. drop n line) (sym stand.0) in
      let token : token_in d (drop t.start line) ≡ Some (begun say.0 say.1) = ap (token_in d) (sym at) ∙ say.2 in
      let len : say.1 ≡ t.end - t.start = same_length (drop t.start line) (begun say.0 say.1) (begun t.kind (t.end - t.start)) token stand.3 in
      let rises = stand.1 in
      let end : t.start + say.1 ≡ t.end = omega arith in
      let behind : drop say.1 (skipped (drop from line)) ≡ drop t.end line = ap (drop say.1) at ∙ drop-drop t.start say.1 line ∙ ap (λ n. drop n line) end in
      let P : List ℕ → Type 0 = λ l. SaysFromIn d (skipped l) gs in
      Fault-silent line t.end ts p gs stand.4 bad (subst P behind say.4)

  -- the tokens of a line have the same meaning as its bytes
  pub tokens_say : (line : List ℕ) (ts : List Token) (gs : List Glyph) → StandIn d line 0 ts (length line) → AreSaid line ts gs ↔ SaysIn d line gs
  tokens_say line ts gs stand = (λ say. StandIn-SaysIn d line 0 ts gs stand say, λ says. Says-AreSaid line 0 ts gs stand says)

  -- a line has only one error, and then no tokens cover it to its end
  pub Fault-one : (line : List ℕ) (p q : ℕ) → IsFaultIn d line p → IsFaultIn d line q → p ≡ q
  Fault-one line p q a b = Stand-one line 0 a.before b.before p q a.stand (inr a.bad) b.stand (inr b.bad)

  pub Fault-whole : (line : List ℕ) (p : ℕ) (ts : List Token) → IsFaultIn d line p → StandIn d line 0 ts (length line) → ⊥
  Fault-whole line p ts fault stand =
      let same = Stand-one line 0 fault.before ts p (length line) fault.stand (inr fault.bad) stand (inl (omega arith)) in
      let inside = fault.bad.inside in
      omega arith

  -- an error for a bad token is correct: the line has no meaning
  pub Bad-silent : (line : List ℕ) (f : TokenFault) → ((p : ℕ) → f ≡ fault.Bad p → IsFaultIn d line p) → refusal_of f ≡ refusal.NoForm → (gs : List Glyph) → SaysIn d line gs → ⊥
  Bad-silent line (fault.Bad p) bad none gs say = let found = bad p refl in Fault-silent line 0 found.before p gs found.stand found.bad say
  Bad-silent line fault.NoMemory bad none gs say = cc

-- one more token that means its glyph
pub AreSaid-push : (line : List ℕ) (ts : List Token) (gs : List Glyph) (t : Token) (g : Glyph) → AreSaid line ts gs → said t.kind (token_text line t) ≡ Some g → AreSaid line (ts ++ t ∷ []) (gs ++ g ∷ [])
AreSaid-push line [] [] t g say is = (is, tt)
AreSaid-push line [] (h ∷ gs) t g say is = absurd say
AreSaid-push line (u ∷ ts) [] t g say is = absurd say
AreSaid-push line (u ∷ ts) (h ∷ gs) t g say is = (say.0, AreSaid-push line ts gs t g say.1 is)

-- a token without a meaning leaves the line without one
pub AreSaid-each : (line : List ℕ) (ts : List Token) (gs : List Glyph) (i : ℕ) (d : Token) → AreSaid line ts gs → i < length ts → said (get_or ts i d).kind (token_text line (get_or ts i d)) ≡ None → ⊥
AreSaid-each line [] gs i d say inside none = absurd (omega arith)
AreSaid-each line (t ∷ ts) [] i d say inside none = say
AreSaid-each line (t ∷ ts) (g ∷ gs) zero d say inside none = let wrong : Some g ≡ None = sym say.0 ∙ none in cc
AreSaid-each line (t ∷ ts) (g ∷ gs) (suc i) d say inside none = AreSaid-each line ts gs i d say.1 (omega arith) none
