use Rattle.packet_core.proofs.classifier.Classifier.class_of.Goals as goal

pub returns-then-self-clause-class : goal.returns-then-self-clause-class
returns-then-self-clause-class c = c.class_met.ensures.class c.args.header.now.extra
