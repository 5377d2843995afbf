use Rattle.text_core.proofs.Prelude.{length, ◌≡◌, arith, ◌+◌, List, ap, drop, sym, subst, ◌∙◌, ◌≤◌, Some, None, length-drop, inl, Err, prefix_len, StandIn, begun, token_in, after_blanks, is_blank, IsFaultIn}
use Rattle.text_core.specs.declared.token.TokenFault.TheVariants.{Bad}
use Rattle.text_core.proofs.TokenLaws.{Stand-All, Fault-one, Fault-whole}
use Rattle.text_core.proofs.TokenLemmas.{Stand-push, rest-from}
use Rattle.text_core.proofs.token.tokens_in.Goals as goal

pub loop-at-init : goal.loop-at-init
loop-at-init c =
    let start : c.blanks-at.result ≡ after_blanks c.args.line.now 0 = omega (arith, c.blanks-at.ensures.count) in
    record { stand = subst (λ ts. StandIn c.args.dialect c.args.line.now 0 ts c.blanks-at.result) (sym (c.from_vec-found.ensures ∙ c.new.ensures.items)) start; inside = omega arith }

pub loop-at-preserved : goal.loop-at-preserved
loop-at-preserved c =
    let line = c.args.line.now in
    let at = c.loop-at.at in
    let n = c.in-Some.length in
    let token : token_in c.args.dialect (drop at line) ≡ Some (begun c.in-Some.kind n) = sym (c.in-Some.ensures.token ∙ ap (token_in c.args.dialect) (rest-from at line)) in
    let fits = c.in-Some.ensures.fits in
    let length_is = ap length (rest-from at line) ∙ length-drop at line in
    let inside : at + n ≤ length line = omega arith in
    let count : at + n + c.blanks.result ≡ after_blanks line (at + n) = ap (λ m. at + n + m) (c.blanks.ensures.count ∙ ap (prefix_len is_blank) (rest-from (at + n) line)) in
    let within = c.blanks.ensures.within in
    let rest_is = ap length (rest-from (at + n) line) ∙ length-drop (at + n) line in
    record { stand = let P : List _ → Type 0 = λ ts. StandIn c.args.dialect line 0 ts (at + n + c.blanks.result) in subst P (sym c.in_ok-push.ensures.ok) (subst (StandIn c.args.dialect line 0 _) (sym count) (Stand-push c.args.dialect line 0 _ _ at n c.loop-at.invariant.stand token (fits.0) inside)); inside = omega arith }

pub returns-clause-within : goal.returns-clause-within
returns-clause-within c = Stand-All c.args.dialect _ 0 c.loop-at.found _ c.loop-at.invariant.stand

pub returns-clause-fault : goal.returns-clause-fault
returns-clause-fault c p fault =
    let inside = c.loop-at.invariant.inside in
    let whole : c.loop-at.at ≡ length c.args.line.now = omega arith in
    absurd (Fault-whole c.args.dialect c.args.line.now p c.loop-at.found fault (subst (StandIn c.args.dialect c.args.line.now 0 c.loop-at.found) whole c.loop-at.invariant.stand))

pub returns-in_default-clause-fault : goal.returns-in_default-clause-fault
returns-in_default-clause-fault c p fault =
    let line = c.args.line.now in
    let at = c.loop-at.at in
    let none : token_in c.args.dialect (drop at line) ≡ None = sym (c.in_default.ensures.token ∙ ap (token_in c.args.dialect) (rest-from at line)) in
    let here : IsFaultIn c.args.dialect line at = record { before = c.loop-at.found; stand = c.loop-at.invariant.stand; bad = record { inside = c.loop-at-test.true; none = none } } in
    inl (ap (λ n. Err (Bad n)) (Fault-one c.args.dialect line at p here fault))
