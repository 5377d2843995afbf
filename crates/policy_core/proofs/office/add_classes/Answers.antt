use Rattle.policy_core.proofs.Prelude.{List, ◌≡◌, [], ◌∷◌, map, ◌++◌, take, on_ok_weaker, codes, Sense, class, sense_of, unset, Dest, Dport, Dscp, backup_network, exactly, tcp, udp, office_classes}
use Rattle.policy_core.proofs.OfficeLines.{one-more}
use Rattle.policy_core.proofs.office.add_classes.Goals as goal

pub returns : goal.returns
returns c =
    let old : List Sense = map sense_of c.args.all.now in
    let first : map sense_of c.add_class.new.all ≡ old ++ take 1 office_classes = c.in_ok-add_class.ensures in
    let second : map sense_of c.add_class-2.new.all ≡ old ++ take 2 office_classes = one-more old (map sense_of c.add_class.new.all) (map sense_of c.add_class-2.new.all) (take 1 office_classes) (class (codes "video") unset (exactly Dscp 34 ∷ [])) first c.in_ok-add_class-2.ensures in
    let third : map sense_of c.add_class-3.new.all ≡ old ++ take 3 office_classes = one-more old (map sense_of c.add_class-2.new.all) (map sense_of c.add_class-3.new.all) (take 2 office_classes) (class (codes "ssh") unset (tcp ∷ exactly Dport 22 ∷ [])) second c.in_ok-add_class-3.ensures in
    let fourth : map sense_of c.add_class-4.new.all ≡ old ++ take 4 office_classes = one-more old (map sense_of c.add_class-3.new.all) (map sense_of c.add_class-4.new.all) (take 3 office_classes) (class (codes "dns") unset (udp ∷ exactly Dport 53 ∷ [])) third c.in_ok-add_class-4.ensures in
    let fifth : map sense_of c.add_class-5.new.all ≡ old ++ take 5 office_classes = one-more old (map sense_of c.add_class-4.new.all) (map sense_of c.add_class-5.new.all) (take 4 office_classes) (class (codes "web") unset (tcp ∷ exactly Dport 443 ∷ [])) fourth c.in_ok-add_class-5.ensures in
    let sixth : map sense_of c.add_class-6.new.all ≡ old ++ take 6 office_classes = one-more old (map sense_of c.add_class-5.new.all) (map sense_of c.add_class-6.new.all) (take 5 office_classes) (class (codes "mail") unset (tcp ∷ exactly Dport 25 ∷ [])) fifth c.in_ok-add_class-6.ensures in
    let seventh : map sense_of c.add_class-7.new.all ≡ old ++ take 7 office_classes = one-more old (map sense_of c.add_class-6.new.all) (map sense_of c.add_class-7.new.all) (take 6 office_classes) (class (codes "backup") unset (Dest backup_network 16 ∷ [])) sixth c.in_ok-add_class-7.ensures in
    on_ok_weaker c.add_class-8.result (λ last. one-more old (map sense_of c.add_class-7.new.all) (map sense_of c.add_class-8.new.all) (take 7 office_classes) (class (codes "other") unset []) seventh last) c.add_class-8.ensures
