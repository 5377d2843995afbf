-- The class of a packet doesn't depend on its extra fields if no test names one.
use Rattle.packet_core.proofs.Prelude.{◌∙◌, ap, map, Class, Written, probe_of, test_of, tests_of, classes_of, List, ℕ, ◌≡◌, refl, false, ◌&&◌, [], ◌∷◌, position_or_len, length, Some, None, Fields, ExtraFields, is_found, passes, belongs, class_among, asks, one_asks, list_all, HasClassOf, header_in, extra_of}
use Rattle.packet_defs.specs.Headers.{fields_in}
use Rattle.policy_rules.specs.Resolved.{Resolved}
use Rattle.std.specs.Prelude.{◌+◌, ◌||◌, not, cond, nat_lt, if◌then◌else◌}
use Rattle.std.specs.List.{list_any}
use Rattle.std.proofs.Common.{true≢false}
use Rattle.std.proofs.lemmas.Bool.{or_parts}
use Rattle.packet_defs.specs.Test.{named, pcp, ethertype, Probe, among, source, target, flags, ipv4, ipv6, v4, v6, Test}

unasked-found : (f : Fields) (e g : ExtraFields) (n : ℕ) (p : Probe) → asks p ≡ false → is_found (record { fields = f; extra = e }) n p ≡ is_found (record { fields = f; extra = g }) n p
unasked-found f e g n (among (named field) ranges) unasked = refl
unasked-found f e g n (among pcp ranges) unasked = absurd (true≢false unasked)
unasked-found f e g n (among ethertype ranges) unasked = absurd (true≢false unasked)
unasked-found f e g n (source (v4 a b)) unasked = refl
unasked-found f e g n (source (v6 a b)) unasked = refl
unasked-found f e g n (target (v4 a b)) unasked = refl
unasked-found f e g n (target (v6 a b)) unasked = refl
unasked-found f e g n (flags v m) unasked = absurd (true≢false unasked)
unasked-found f e g n ipv4 unasked = refl
unasked-found f e g n ipv6 unasked = refl

unasked-passes : (f : Fields) (e g : ExtraFields) (n : ℕ) (t : Test) → asks t.probe ≡ false → passes (record { fields = f; extra = e }) n t ≡ passes (record { fields = f; extra = g }) n t
unasked-passes f e g n t unasked = ap (λ b. if t.negated then not b else b) (unasked-found f e g n t.probe unasked)

unasked-all : (f : Fields) (e g : ExtraFields) (n : ℕ) (ts : List Test) → list_any (λ (t : Test). asks t.probe) ts ≡ false
    → list_all (passes (record { fields = f; extra = e }) n) ts ≡ list_all (passes (record { fields = f; extra = g }) n) ts
unasked-all f e g n [] unasked = refl
unasked-all f e g n (t ∷ ts) unasked =
    let parts = or_parts (asks t.probe) (list_any (λ (u : Test). asks u.probe) ts) unasked in
    ap (λ b. b && list_all (passes (record { fields = f; extra = e }) n) ts) (unasked-passes f e g n t parts.0)
    ∙ ap (λ b. passes (record { fields = f; extra = g }) n t && b) (unasked-all f e g n ts parts.1)

unasked-any : (f : Fields) (e g : ExtraFields) (n : ℕ) (alts : List (List Test)) → list_any (list_any (λ (t : Test). asks t.probe)) alts ≡ false
    → list_any (list_all (passes (record { fields = f; extra = e }) n)) alts ≡ list_any (list_all (passes (record { fields = f; extra = g }) n)) alts
unasked-any f e g n [] unasked = refl
unasked-any f e g n (ts ∷ alts) unasked =
    let parts = or_parts (list_any (λ (u : Test). asks u.probe) ts) (list_any (list_any (λ (u : Test). asks u.probe)) alts) unasked in
    ap (λ b. b || list_any (list_all (passes (record { fields = f; extra = e }) n)) alts) (unasked-all f e g n ts parts.0)
    ∙ ap (λ b. list_all (passes (record { fields = f; extra = g }) n) ts || b) (unasked-any f e g n alts parts.1)

unasked-belongs : (f : Fields) (e g : ExtraFields) (n : ℕ) (alts : List (List Test)) → list_any (list_any (λ (t : Test). asks t.probe)) alts ≡ false
    → belongs (record { fields = f; extra = e }) n alts ≡ belongs (record { fields = f; extra = g }) n alts
unasked-belongs f e g n [] unasked = refl
unasked-belongs f e g n (ts ∷ alts) unasked = unasked-any f e g n (ts ∷ alts) unasked

unasked-place : (f : Fields) (e g : ExtraFields) (n : ℕ) (cs : List (List (List Test))) → one_asks cs ≡ false
    → position_or_len (belongs (record { fields = f; extra = e }) n) cs ≡ position_or_len (belongs (record { fields = f; extra = g }) n) cs
unasked-place f e g n [] unasked = refl
unasked-place f e g n (c ∷ cs) unasked =
    let parts = or_parts (list_any (list_any (λ (u : Test). asks u.probe)) c) (one_asks cs) unasked in
    ap (λ b. cond (not b) (1 + position_or_len (belongs (record { fields = f; extra = e }) n) cs) 0) (unasked-belongs f e g n c parts.0)
    ∙ ap (λ m. cond (not (belongs (record { fields = f; extra = g }) n c)) (1 + m) 0) (unasked-place f e g n cs parts.1)

-- the class is the same with other extra fields
pub unasked-class : (f : Fields) (e g : ExtraFields) (n : ℕ) (cs : List (List (List Test))) → one_asks cs ≡ false
    → class_among cs (record { fields = f; extra = e }) n ≡ class_among cs (record { fields = f; extra = g }) n
unasked-class f e g n cs unasked = ap (λ m. cond (nat_lt m (length cs)) (Some m) None) (unasked-place f e g n cs unasked)

asks-tests : (ts : List Written) → list_any (λ (t : Written). asks (probe_of t.probe)) ts ≡ list_any (λ (t : Test). asks t.probe) (map test_of ts)
asks-tests [] = refl
asks-tests (t ∷ ts) = ap (λ b. asks (probe_of t.probe) || b) (asks-tests ts)

asks-alternatives : (alts : List (List Written)) → list_any (list_any (λ (t : Written). asks (probe_of t.probe))) alts ≡ list_any (list_any (λ (t : Test). asks t.probe)) (tests_of alts)
asks-alternatives [] = refl
asks-alternatives (ts ∷ alts) =
    ap (λ b. b || list_any (list_any (λ (t : Written). asks (probe_of t.probe))) alts) (asks-tests ts)
    ∙ ap (λ b. list_any (λ (t : Test). asks t.probe) (map test_of ts) || b) (asks-alternatives alts)

-- classes ask exactly if their tests do
pub asks-classes : (cs : List Class) → list_any (λ (c : Class). list_any (list_any (λ (t : Written). asks (probe_of t.probe))) c.conditions) cs ≡ one_asks (classes_of (map (λ c. c.conditions) cs))
asks-classes [] = refl
asks-classes (c ∷ cs) =
    ap (λ b. b || list_any (λ (d : Class). list_any (list_any (λ (t : Written). asks (probe_of t.probe))) d.conditions) cs) (asks-alternatives c.conditions)
    ∙ ap (λ b. list_any (list_any (λ (t : Test). asks t.probe)) (tests_of c.conditions) || b) (asks-classes cs)

-- a header with the right fields, and any extra fields if no test names one
pub has-class-unasked : (policy : Resolved) (f : Fields) (e : ExtraFields) (link : ℕ) (bytes : List ℕ) → f ≡ fields_in policy.policy.version link bytes → one_asks (classes_of policy.conditions) ≡ false
    → HasClassOf policy (header_in policy.policy.version link bytes) (record { fields = f; extra = e })
has-class-unasked policy f e link bytes is unasked = record {
  fields = is;
  class = λ n. ap (λ (g : Fields). class_among (classes_of policy.conditions) (record { fields = g; extra = e }) n) is
      ∙ unasked-class (fields_in policy.policy.version link bytes) e (extra_of link bytes) n (classes_of policy.conditions) unasked;
}

pub has-class-asked : (policy : Resolved) (f : Fields) (e : ExtraFields) (link : ℕ) (bytes : List ℕ) → f ≡ fields_in policy.policy.version link bytes → e ≡ extra_of link bytes
    → HasClassOf policy (header_in policy.policy.version link bytes) (record { fields = f; extra = e })
has-class-asked policy f e link bytes is extra = record {
  fields = is;
  class = λ n. ap (λ (g : Fields). class_among (classes_of policy.conditions) (record { fields = g; extra = e }) n) is
      ∙ ap (λ (x : ExtraFields). class_among (classes_of policy.conditions) (record { fields = fields_in policy.policy.version link bytes; extra = x }) n) extra;
}
