use Rattle.text_core.proofs.Prelude.{length, ◌≡◌, arith, ◌+◌, [], ap, sym, ◌∷◌, subst, take, ◌∙◌, Some, ◌++◌, suc, get_or, option_map, Err, take_all, map-append, glyphs_of, glyph_of, AreSaid, said, token_text, StandIn, Token}
use Rattle.std.proofs.Math.Seq.{take-suc}
use Rattle.std.proofs.lemmas.Result.{err_from_is_err_and}
use Rattle.text_core.specs.declared.token.TokenKind.TheVariants as k
use Rattle.text_core.specs.declared.refusal.Refusal.TheVariants as refusal
use Rattle.text_core.proofs.TokenLaws.{Bad-silent, AreSaid-push, AreSaid-each, Says-AreSaid}
use Rattle.text_core.proofs.SaysLaws.{StandIn-SaysIn}
use Rattle.text_core.proofs.item.items_in.Goals as goal

abbrev none_yet : Token
none_yet = record { kind = k.Word; start = 0; end = 0 }

pub returns-in_err-tokens-clause-silent : goal.returns-in_err-tokens-clause-silent
returns-in_err-tokens-clause-silent c none gs say =
    let left = err_from_is_err_and c.from_residual.result c.from_residual.ensures.1 in
    let both = sym left.1 ∙ none in
    let same : left.0 ≡ refusal.NoForm = cc both in
    Bad-silent c.args.dialect c.args.line.now c.in_err-tokens.field-0.0 (λ p e. c.in_err-tokens.ensures.bad p (ap Err e)) (sym left.2 ∙ same) gs say

pub loop-token-init : goal.loop-token-init
loop-token-init c = subst (λ is. AreSaid c.args.line.now [] (glyphs_of is)) (sym (c.from_vec-found.ensures ∙ c.new.ensures.items)) tt

pub loop-token-preserved : goal.loop-token-preserved
loop-token-preserved c =
    let line = c.args.line.now in
    let ts = c.as_slice-token-items.result.now in
    let i = c.loop-token.token-index in
    let t = get_or ts i none_yet in
    let is : said t.kind (token_text line t) ≡ Some (glyph_of c.in-Some.item) = sym c.of.ensures ∙ ap (option_map glyph_of) c.in-Some.is in
    let more = AreSaid-push line (take i ts) (glyphs_of c.loop-token.found) t (glyph_of c.in-Some.item) c.loop-token.invariant is in
    let tokens : take i ts ++ t ∷ [] ≡ take (i + 1) ts = let one : i + 1 ≡ suc i = omega arith in sym (ap (λ n. take n ts) one ∙ take-suc ts i none_yet c.loop-token-test.true) in
    let glyphs : glyphs_of c.loop-token.found ++ glyph_of c.in-Some.item ∷ [] ≡ glyphs_of c.push.new.self = sym (ap glyphs_of c.in_ok-push.ensures.ok ∙ map-append glyph_of c.loop-token.found (c.in-Some.item ∷ [])) in
    subst (AreSaid line (take (i + 1) ts)) glyphs (subst (λ l. AreSaid line l (glyphs_of c.loop-token.found ++ glyph_of c.in-Some.item ∷ [])) tokens more)

pub returns-clause-said : goal.returns-clause-said
returns-clause-said c =
    let line = c.args.line.now in
    let ts = c.as_slice-token-items.result.now in
    let stand : StandIn c.args.dialect line 0 ts (length line) = subst (λ l. StandIn c.args.dialect line 0 l (length line)) (sym c.as_slice-token-items.ensures) c.in_ok-tokens.ensures.ok in
    let all : AreSaid line ts (glyphs_of c.loop-token.found) = subst (λ l. AreSaid line l (glyphs_of c.loop-token.found)) (take_all c.loop-token.token-index ts c.loop-token-test.false) c.loop-token.invariant in
    StandIn-SaysIn c.args.dialect line 0 ts (glyphs_of c.loop-token.found) stand all

pub returns-in_default-clause-silent : goal.returns-in_default-clause-silent
returns-in_default-clause-silent c none gs say =
    let line = c.args.line.now in
    let ts = c.as_slice-token-items.result.now in
    let stand : StandIn c.args.dialect line 0 ts (length line) = subst (λ l. StandIn c.args.dialect line 0 l (length line)) (sym c.as_slice-token-items.ensures) c.in_ok-tokens.ensures.ok in
    AreSaid-each line ts gs c.loop-token.token-index none_yet (Says-AreSaid c.args.dialect line 0 ts gs stand say) c.loop-token-test.true (sym c.of.ensures ∙ ap (option_map glyph_of) c.in_default.is)
