use Rattle.replay_app.proofs.Prelude.{refl, arith, err_from_is_err_and, offices-alike, IsOffice}
use Rattle.replay_app.proofs.SoakLaws.{soaked_none, soaked_whole, soaked_part, left_whole, left_part, left_written}
use Rattle.replay_app.proofs.soak.soak_load.Goals as goal

-- the office policy has eight classes
pub soak-requires-clause-classes : goal.soak-requires-clause-classes
soak-requires-clause-classes g c = let office : IsOffice c.in_ok-laid.laid.policy = offices-alike c.in_ok-laid.laid.policy c.in_ok-laid.ensures.office in omega arith

pub returns-in_err-laid-clause-answer : goal.returns-in_err-laid-clause-answer
returns-in_err-laid-clause-answer g c =
    let p = err_from_is_err_and c.from_residual.result c.from_residual.ensures.1 in
    rw (p.1) (soaked_none c.args.load _ (g.K.Sink.written c.args.sink.now))

pub returns-in_err-counts-clause-answer : goal.returns-in_err-counts-clause-answer
returns-in_err-counts-clause-answer g c =
    let p = err_from_is_err_and c.from_residual-in_err-counts.result c.from_residual-in_err-counts.ensures.1 in
    rw (p.1, c.in_err-counts.ensures.unwritten) (soaked_none c.args.load _ (g.K.Sink.written c.args.sink.now))

pub returns-in_err-counts-clause-left : goal.returns-in_err-counts-clause-left
returns-in_err-counts-clause-left g c =
    let p = err_from_is_err_and c.from_residual-in_err-counts.result c.from_residual-in_err-counts.ensures.1 in
    let l = c.in_ok-laid.laid in
    let e = c.in_ok-laid.ensures in
    rw (p.1) (left_part c.args.load l.policy l.target l.map e.target e.office e.map g.F.Fabric c.args.fabric.now c.soak.new.fabric _ c.in_err-counts.ensures.fabric_part)

pub returns-in_err-write_counts-clause-answer : goal.returns-in_err-write_counts-clause-answer
returns-in_err-write_counts-clause-answer g c =
    let p = err_from_is_err_and c.from_residual-in_err-write_counts.result c.from_residual-in_err-write_counts.ensures.1 in
    let l = c.in_ok-laid.laid in
    let e = c.in_ok-laid.ensures in
    rw (p.1) (soaked_part c.args.load l.policy l.target l.map e.target e.office e.map _ c.in_ok-counts.counts _ (g.K.Sink.written c.args.sink.now) (g.K.Sink.written c.soak.new.sink) _
    c.in_ok-counts.ensures.counts refl c.in_ok-counts.ensures.unwritten c.in_err-write_counts.ensures.part)

pub returns-in_err-write_counts-clause-left : goal.returns-in_err-write_counts-clause-left
returns-in_err-write_counts-clause-left g c =
    let p = err_from_is_err_and c.from_residual-in_err-write_counts.result c.from_residual-in_err-write_counts.ensures.1 in
    let l = c.in_ok-laid.laid in
    let e = c.in_ok-laid.ensures in
    rw (p.1) (left_written c.args.load l.policy l.target l.map e.target e.office e.map g.F.Fabric c.args.fabric.now c.soak.new.fabric _ c.in_ok-counts.ensures.fabric)

pub returns-clause-answer : goal.returns-clause-answer
returns-clause-answer g c =
    let l = c.in_ok-laid.laid in
    let e = c.in_ok-laid.ensures in
    soaked_whole c.args.load l.policy l.target l.map e.target e.office e.map _ c.in_ok-counts.counts _ (g.K.Sink.written c.args.sink.now) (g.K.Sink.written c.soak.new.sink) _
    refl c.in_ok-counts.ensures.counts refl c.in_ok-counts.ensures.unwritten c.in_ok-write_counts.ensures.text

pub returns-clause-left : goal.returns-clause-left
returns-clause-left g c =
    let l = c.in_ok-laid.laid in
    let e = c.in_ok-laid.ensures in
    left_whole c.args.load l.policy l.target l.map e.target e.office e.map g.F.Fabric c.args.fabric.now c.soak.new.fabric _ c.in_ok-counts.ensures.fabric
