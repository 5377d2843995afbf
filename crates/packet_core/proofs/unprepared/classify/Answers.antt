use Rattle.packet_core.proofs.Prelude.{◌∙◌, sym, ap, List, position, Class, Written, Header, ExtraFields, no_extra, belongs, class_among, classes_of, tests_of}
use Rattle.packet_core.proofs.FirstClass.{class_among-classes, gives-each}
use Rattle.packet_core.proofs.ClassicLaws.{classic-kept}
use Rattle.packet_core.proofs.unprepared.classify.Goals as goal

pub unreachable-requires : goal.unreachable-requires
unreachable-requires c =
    let header : Header = record { fields = c.args.fields.now; extra = no_extra } in
    gives-each c.args.policy.now.conditions c.classes.ensures.catch_all header c.args.len
    (ap (λ (cs : List (List (List Written))). class_among (classes_of cs) header c.args.len) (sym c.classes.ensures.conditions)
    ∙ sym (class_among-classes header c.args.len c.classes.result.now)
    ∙ ap (λ (e : ExtraFields). position (λ (p : Class). belongs (record { fields = c.args.fields.now; extra = e }) c.args.len (tests_of p.conditions)) c.classes.result.now) (sym c.no_extra.ensures)
    ∙ sym c.first_class.ensures
    ∙ c.in-None.is)

pub returns-clause-class : goal.returns-clause-class
returns-clause-class c =
    let header : Header = record { fields = c.args.fields.now; extra = no_extra } in
    ap (λ (cs : List (List (List Written))). class_among (classes_of cs) header c.args.len) (sym c.classes.ensures.conditions)
    ∙ sym (class_among-classes header c.args.len c.classes.result.now)
    ∙ ap (λ (e : ExtraFields). position (λ (p : Class). belongs (record { fields = c.args.fields.now; extra = e }) c.args.len (tests_of p.conditions)) c.classes.result.now) (sym c.no_extra.ensures)
    ∙ sym c.first_class.ensures
    ∙ c.in-Some.is

pub returns-clause-classic : goal.returns-clause-classic
returns-clause-classic c = λ conditions is.
    let header : Header = record { fields = c.args.fields.now; extra = no_extra } in
    sym (classic-kept conditions header c.args.len)
    ∙ ap (λ (cs : List (List (List Written))). class_among (classes_of cs) header c.args.len) (sym is)
    ∙ returns-clause-class c
