-- Conditions: the reader accepts exactly their form.
use Rattle.policy_text_defs.proofs.Prelude.{List, ℕ, [], refl, ◌≡◌, ◌∷◌, Some, ◌++◌, subst, Bool, true, false, sym, None, arith, codes, ◌≤◌, ◌∙◌, Option, ap, leb, leb-true, le-leb, ◌&&◌, Glyph, text, figure, sign, Mark, field_most, most_octet, most_prefix, ahead, pick, pure, Outcome, ◌>>=◌, is_sign, unit_if, a_number, word_ahead, number_to, bounds, condition_by, named_value, octets_at, protocol_by, IsCondition, Address, Range, between, dest, field, ipv4, ipv6, prefix, single, source, AreOctets, address_of, octet_tokens, protocol, whole, Octets, field_word, protocol_of, subject_of, Condition, FieldName}
use Rattle.text_core.specs.declared.mark.Mark.TheVariants as m
use Rattle.policy_text_defs.specs.declared.condition.FieldName.TheVariants as field_name
use Rattle.policy_text_defs.specs.declared.condition.Condition.TheVariants as condition
use Rattle.policy_text_defs.specs.declared.condition.Subject.{Subject}
use Rattle.policy_text_defs.specs.declared.condition.Subject.TheVariants as subject
use Rattle.policy_text_defs.specs.Reading.{is_text}
use Rattle.policy_text_defs.specs.StatementReading.{within, upper, bounded, address, prefix_length, source_rest, dest_rest, a_condition}
use Rattle.policy_text_defs.specs.TestReading.{sign_ahead}
use Rattle.policy_text_defs.proofs.StepLaws.{steps, same_value, same_rest, stands, marked, sign_is, text_is, in_table}
use Rattle.policy_text_defs.proofs.TokenLaws.{numbered, a_word_was, number_to_was, kept, Kept, both_true}

-- ---- a mark or a word that may follow

pub unit_case : (v : Bool) (u : Unit {0}) → unit_if v ≡ Some u → v ≡ true
unit_case true u e = refl
unit_case false u e = absurd cc

pub sign_follows : (s : Mark) (gs hs : List Glyph) (u : Unit {0}) → ahead (sign_ahead s) gs ≡ Some (u, hs) → gs ≡ sign s ∷ hs
sign_follows s gs hs u e =
    let stand = stands (sign_ahead s) gs hs u e in
    stand.split ∙ ap (λ g. g ∷ hs) (sign_is s stand.glyph (unit_case (is_sign s stand.glyph) u stand.is))

pub word_follows : (w : List ℕ) (gs hs : List Glyph) (u : Unit {0}) → ahead (word_ahead w) gs ≡ Some (u, hs) → gs ≡ text w ∷ hs
word_follows w gs hs u e =
    let stand = stands (word_ahead w) gs hs u e in
    stand.split ∙ ap (λ g. g ∷ hs) (text_is w stand.glyph (unit_case (is_text w stand.glyph) u stand.is))

-- the tokens after a condition can't belong to it
pub record Apart (rest : List Glyph) : Type 0 where
  pub dots : ahead (sign_ahead m.DotDot) rest ≡ None
  pub slash : ahead (sign_ahead m.Slash) rest ≡ None

pub apart_end : Apart []
apart_end = record { dots = refl; slash = refl }

pub apart_word : (w : List ℕ) (gs : List Glyph) → Apart (text w ∷ gs)
apart_word w gs = record { dots = refl; slash = refl }

-- ---- ranges

pub data Upper (low : ℕ) (gs : List Glyph) (high : ℕ) (left : List Glyph) : Type 0 where
  alone : low ≡ high → gs ≡ left → Upper low gs high left
  dotted : gs ≡ sign m.DotDot ∷ figure high ∷ left → Upper low gs high left

upper_case : (low high : ℕ) (gs left : List Glyph) (found : Outcome (Unit {0})) → ahead (sign_ahead m.DotDot) gs ≡ found → pick found (pure low gs) (λ t. a_number t.1) ≡ Some (high, left) → Upper low gs high left
upper_case low high gs left None is e = alone (same_value low high gs left e) (same_rest low high gs left e)
upper_case low high gs left (Some t) is e = dotted (sign_follows m.DotDot gs t.1 t.0 is ∙ ap (λ l. sign m.DotDot ∷ l) (numbered t.1 left high e))

pub upper_was : (low high : ℕ) (gs left : List Glyph) → upper low gs ≡ Some (high, left) → Upper low gs high left
unfolding upper
upper_was low high gs left e = upper_case low high gs left (ahead (sign_ahead m.DotDot) gs) refl e

bounded_was : (f : FieldName) (low high : ℕ) (c : Condition) (gs left : List Glyph) → bounded f low high gs ≡ Some (c, left) → Kept (leb low high && leb high (field_most f)) (condition.Field f low high) c gs left
unfolding bounded
bounded_was f low high c gs left e = kept (leb low high && leb high (field_most f)) (condition.Field f low high) c gs left e

-- a condition was read, after its first word
record Rest (first : List ℕ) (gs : List Glyph) (c : Condition) (left : List Glyph) : Type 0 where
  front : List Glyph
  split : gs ≡ front ++ left
  is : IsCondition (text first ∷ front) c

ranged : (f : FieldName) (low high : ℕ) (c : Condition) (gs hs left : List Glyph) → Upper low gs high hs → Kept (leb low high && leb high (field_most f)) (condition.Field f low high) c hs left → Rest (field_word f) (figure low ∷ gs) c left
ranged f low high c gs hs left (alone same over) passed =
    let both = both_true (leb low high) (leb high (field_most f)) passed.is in
    let below : low ≤ field_most f = subst (λ n. n ≤ field_most f) (sym same) (leb-true high (field_most f) both.1) in
    let value : condition.Field f low low ≡ c = ap (λ n. condition.Field f low n) same ∙ passed.same in
    record { front = figure low ∷ []; split = ap (λ l. figure low ∷ l) (over ∙ passed.rest); is = subst (IsCondition (text (field_word f) ∷ figure low ∷ [])) value (field f (figure low ∷ []) low low (single low) below) }
ranged f low high c gs hs left (dotted over) passed =
    let both = both_true (leb low high) (leb high (field_most f)) passed.is in
    let front : List Glyph = figure low ∷ sign m.DotDot ∷ figure high ∷ [] in
    record { front = front; split = ap (λ l. figure low ∷ l) (over ∙ ap (λ l. sign m.DotDot ∷ figure high ∷ l) passed.rest); is = subst (IsCondition (text (field_word f) ∷ front)) passed.same (field f front low high (between low high (leb-true low high both.0)) (leb-true high (field_most f) both.1)) }

protocol_was : (w : List ℕ) (gs left : List Glyph) (c : Condition) (found : Option ℕ) → protocol_of w ≡ found → protocol_by found gs ≡ Some (c, left) → Rest (codes "proto") (text w ∷ gs) c left
protocol_was w gs left c None is e = absurd cc
protocol_was w gs left c (Some n) is e =
    let made : IsCondition (text (codes "proto") ∷ text w ∷ []) (condition.Field field_name.Proto n n) = protocol w n is in
    record { front = text w ∷ []; split = ap (λ l. text w ∷ l) (same_rest (condition.Field field_name.Proto n n) c gs left e); is = subst (IsCondition (text (codes "proto") ∷ text w ∷ [])) (same_value (condition.Field field_name.Proto n n) c gs left e) made }

named_value_was : (f : FieldName) (w : List ℕ) (gs left : List Glyph) (c : Condition) → named_value f w gs ≡ Some (c, left) → Rest (field_word f) (text w ∷ gs) c left
named_value_was field_name.Proto w gs left c e = protocol_was w gs left c (protocol_of w) refl e
named_value_was _ w gs left c e = absurd cc

bounds_was : (f : FieldName) (gs left : List Glyph) (c : Condition) → bounds f gs ≡ Some (c, left) → Rest (field_word f) gs c left
bounds_was f [] left c e = absurd cc
bounds_was f (figure n ∷ gs) left c e =
    let first = steps (upper n gs) (bounded f n) c left e in
    ranged f n first.value c gs first.left left (upper_was n first.value gs first.left first.read) (bounded_was f n first.value c first.left left first.next)
bounds_was f (text w ∷ gs) left c e = named_value_was f w gs left c e
bounds_was f (sign s ∷ gs) left c e = absurd cc

-- ---- addresses

pub record WithOctets (gs : List Glyph) (a : ℕ) (left : List Glyph) : Type 0 where
  pub octets : Octets
  pub are : AreOctets octets
  pub split : gs ≡ octet_tokens octets ++ left
  pub same : address_of octets ≡ a

pub address_was : (a : ℕ) (gs left : List Glyph) → address gs ≡ Some (a, left) → WithOctets gs a left
unfolding address
address_was a gs left e =
    let one = steps _ _ _ _ e in
    let dot_one = steps _ _ _ _ one.next in
    let two = steps _ _ _ _ dot_one.next in
    let dot_two = steps _ _ _ _ two.next in
    let three = steps _ _ _ _ dot_two.next in
    let dot_three = steps _ _ _ _ three.next in
    let four = steps _ _ _ _ dot_three.next in
    let first = number_to_was most_octet one.value gs one.left one.read in
    let second = number_to_was most_octet two.value dot_one.left two.left two.read in
    let third = number_to_was most_octet three.value dot_two.left three.left three.read in
    let fourth = number_to_was most_octet four.value dot_three.left four.left four.read in
    let o : Octets = octets_at one.value two.value three.value four.value in
    let e4 : dot_three.left ≡ figure four.value ∷ left = fourth.split ∙ ap (λ l. figure four.value ∷ l) (same_rest (address_of o) a four.left left four.next) in
    let e3 : dot_two.left ≡ figure three.value ∷ sign m.Dot ∷ figure four.value ∷ left = third.split ∙ ap (λ l. figure three.value ∷ l) (marked m.Dot three.left dot_three.left dot_three.value dot_three.read ∙ ap (λ l. sign m.Dot ∷ l) e4) in
    let e2 : dot_one.left ≡ figure two.value ∷ sign m.Dot ∷ figure three.value ∷ sign m.Dot ∷ figure four.value ∷ left = second.split ∙ ap (λ l. figure two.value ∷ l) (marked m.Dot two.left dot_two.left dot_two.value dot_two.read ∙ ap (λ l. sign m.Dot ∷ l) e3) in
    let e1 : gs ≡ octet_tokens o ++ left = first.split ∙ ap (λ l. figure one.value ∷ l) (marked m.Dot one.left dot_one.left dot_one.value dot_one.read ∙ ap (λ l. sign m.Dot ∷ l) e2) in
    record { octets = o; are = record { first = first.low; second = second.low; third = third.low; fourth = fourth.low }; split = e1; same = same_value (address_of o) a four.left left four.next }

pub data Prefix (gs : List Glyph) (l : ℕ) (left : List Glyph) : Type 0 where
  longest : most_prefix ≡ l → gs ≡ left → Prefix gs l left
  slashed : l ≤ most_prefix → gs ≡ sign m.Slash ∷ figure l ∷ left → Prefix gs l left

prefix_case : (l : ℕ) (gs left : List Glyph) (found : Outcome (Unit {0})) → ahead (sign_ahead m.Slash) gs ≡ found → pick found (pure most_prefix gs) (λ t. number_to most_prefix t.1) ≡ Some (l, left) → Prefix gs l left
prefix_case l gs left None is e = longest (same_value most_prefix l gs left e) (same_rest most_prefix l gs left e)
prefix_case l gs left (Some t) is e =
    let n = number_to_was most_prefix l t.1 left e in
    slashed n.low (sign_follows m.Slash gs t.1 t.0 is ∙ ap (λ r. sign m.Slash ∷ r) n.split)

pub prefix_was : (l : ℕ) (gs left : List Glyph) → prefix_length gs ≡ Some (l, left) → Prefix gs l left
unfolding prefix_length
prefix_was l gs left e = prefix_case l gs left (ahead (sign_ahead m.Slash) gs) refl e

-- an address was read
pub record WithAddress (gs : List Glyph) (a l : ℕ) (left : List Glyph) : Type 0 where
  pub front : List Glyph
  pub split : gs ≡ front ++ left
  pub is : Address front a l

pub with_address : (a l : ℕ) (gs hs left : List Glyph) → WithOctets gs a hs → Prefix hs l left → WithAddress gs a l left
with_address a l gs hs left with_octets (longest same over) =
    let o = with_octets.octets in
    let made : Address (octet_tokens o) (address_of o) l = subst (Address (octet_tokens o) (address_of o)) same (whole o with_octets.are) in
    record { front = octet_tokens o; split = with_octets.split ∙ ap (λ r. octet_tokens o ++ r) over; is = subst (λ n. Address (octet_tokens o) n l) with_octets.same made }
with_address a l gs hs left with_octets (slashed low over) =
    let o = with_octets.octets in
    record { front = octet_tokens o ++ sign m.Slash ∷ figure l ∷ []; split = with_octets.split ∙ ap (λ r. octet_tokens o ++ r) over; is = subst (λ n. Address (octet_tokens o ++ sign m.Slash ∷ figure l ∷ []) n l) with_octets.same (prefix o l with_octets.are low) }

source_was : (c : Condition) (gs left : List Glyph) → source_rest gs ≡ Some (c, left) → Rest (codes "src") gs c left
unfolding source_rest
source_was c gs left e =
    let first = steps _ _ _ _ e in
    let second = steps _ _ _ _ first.next in
    let w = with_address first.value second.value gs first.left second.left (address_was first.value gs first.left first.read) (prefix_was second.value first.left second.left second.read) in
    let d : Condition = condition.Source first.value second.value in
    record { front = w.front; split = w.split ∙ ap (λ r. w.front ++ r) (same_rest d c second.left left second.next); is = subst (IsCondition (text (codes "src") ∷ w.front)) (same_value d c second.left left second.next) (source w.front first.value second.value w.is) }

dest_was : (c : Condition) (gs left : List Glyph) → dest_rest gs ≡ Some (c, left) → Rest (codes "dst") gs c left
unfolding dest_rest
dest_was c gs left e =
    let first = steps _ _ _ _ e in
    let second = steps _ _ _ _ first.next in
    let w = with_address first.value second.value gs first.left second.left (address_was first.value gs first.left first.read) (prefix_was second.value first.left second.left second.read) in
    let d : Condition = condition.Dest first.value second.value in
    record { front = w.front; split = w.split ∙ ap (λ r. w.front ++ r) (same_rest d c second.left left second.next); is = subst (IsCondition (text (codes "dst") ∷ w.front)) (same_value d c second.left left second.next) (dest w.front first.value second.value w.is) }

-- ---- conditions

-- how a condition begins
abbrev subject_word : Subject → List ℕ
subject_word (subject.Field f) = field_word f
subject_word subject.Source = codes "src"
subject_word subject.Dest = codes "dst"
subject_word subject.Ipv4 = codes "ipv4"
subject_word subject.Ipv6 = codes "ipv6"

subject_is : (w : List ℕ) (s : Subject) → subject_of w ≡ Some s → w ≡ subject_word s
subject_is w s e =
    let P : Subject → Type 0 = λ s. w ≡ subject_word s in
    in_table P w (codes "vlan") (subject.Field field_name.Vlan) s _ (λ h. h)
    (in_table P w (codes "dscp") (subject.Field field_name.Dscp) s _ (λ h. h)
    (in_table P w (codes "proto") (subject.Field field_name.Proto) s _ (λ h. h)
    (in_table P w (codes "sport") (subject.Field field_name.Sport) s _ (λ h. h)
    (in_table P w (codes "dport") (subject.Field field_name.Dport) s _ (λ h. h)
    (in_table P w (codes "len") (subject.Field field_name.Len) s _ (λ h. h)
    (in_table P w (codes "src") subject.Source s _ (λ h. h)
    (in_table P w (codes "dst") subject.Dest s _ (λ h. h)
    (in_table P w (codes "ipv4") subject.Ipv4 s _ (λ h. h)
    (in_table P w (codes "ipv6") subject.Ipv6 s _ (λ h. h)
    (λ none. absurd cc)))))))))) e

subject_of-field : (f : FieldName) → subject_of (field_word f) ≡ Some (subject.Field f)
subject_of-field field_name.Vlan = refl
subject_of-field field_name.Dscp = refl
subject_of-field field_name.Proto = refl
subject_of-field field_name.Sport = refl
subject_of-field field_name.Dport = refl
subject_of-field field_name.Len = refl

version_rest : (d c : Condition) (w : List ℕ) (gs left : List Glyph) → IsCondition (text w ∷ []) d → pure d gs ≡ Some (c, left) → Rest w gs c left
version_rest d c w gs left is e = record { front = []; split = same_rest d c gs left e; is = subst (IsCondition (text w ∷ [])) (same_value d c gs left e) is }

subject_was : (s : Subject) (c : Condition) (gs left : List Glyph) → condition_by (Some s) gs ≡ Some (c, left) → Rest (subject_word s) gs c left
subject_was (subject.Field f) c gs left e = bounds_was f gs left c e
subject_was subject.Source c gs left e = source_was c gs left e
subject_was subject.Dest c gs left e = dest_was c gs left e
subject_was subject.Ipv4 c gs left e = version_rest condition.Ipv4 c (codes "ipv4") gs left ipv4 e
subject_was subject.Ipv6 c gs left e = version_rest condition.Ipv6 c (codes "ipv6") gs left ipv6 e

condition_by_was : (w : List ℕ) (c : Condition) (gs left : List Glyph) (found : Option Subject) → subject_of w ≡ found → condition_by found gs ≡ Some (c, left) → Rest w gs c left
condition_by_was w c gs left None is e = absurd cc
condition_by_was w c gs left (Some s) is e = subst (λ v. Rest v gs c left) (sym (subject_is w s is)) (subject_was s c gs left e)

-- a condition was read
pub record WithCondition (gs : List Glyph) (c : Condition) (left : List Glyph) : Type 0 where
  pub front : List Glyph
  pub split : gs ≡ front ++ left
  pub is : IsCondition front c

pub condition_was : (c : Condition) (gs left : List Glyph) → a_condition gs ≡ Some (c, left) → WithCondition gs c left
unfolding a_condition
condition_was c gs left e =
    let first = steps _ _ _ _ e in
    let rest = condition_by_was first.value c first.left left (subject_of first.value) refl first.next in
    record { front = text first.value ∷ rest.front; split = a_word_was gs first.left first.value first.read ∙ ap (λ l. text first.value ∷ l) rest.split; is = rest.is }

-- ---- each form is read

upper_alone : (low : ℕ) (rest : List Glyph) → Apart rest → upper low rest ≡ Some (low, rest)
unfolding upper
upper_alone low rest apart = rw apart.dots refl

pub upper_dotted : (low high : ℕ) (rest : List Glyph) → upper low (sign m.DotDot ∷ figure high ∷ rest) ≡ Some (high, rest)
unfolding upper
upper_dotted low high rest = refl

bounded_reads : (f : FieldName) (low high : ℕ) (rest : List Glyph) → low ≤ high → high ≤ field_most f → bounded f low high rest ≡ Some (condition.Field f low high, rest)
unfolding bounded
bounded_reads f low high rest le below = rw (le-leb low high le, le-leb high (field_most f) below) refl

bounds_read : (f : FieldName) (ts rest : List Glyph) (low high : ℕ) → Range ts low high → high ≤ field_most f → Apart rest → bounds f (ts ++ rest) ≡ Some (condition.Field f low high, rest)
bounds_read f ts rest low high (single n) below apart = rw (upper_alone n rest apart) (bounded_reads f n n rest (omega arith) below)
bounds_read f ts rest low high (between _ _ le) below apart = rw (upper_dotted low high rest) (bounded_reads f low high rest le below)

octets_read : (o : Octets) (rest : List Glyph) → AreOctets o → address (octet_tokens o ++ rest) ≡ Some (address_of o, rest)
unfolding address within
octets_read o rest are = rw (le-leb o.first most_octet are.first, le-leb o.second most_octet are.second, le-leb o.third most_octet are.third, le-leb o.fourth most_octet are.fourth) refl

prefix_alone : (rest : List Glyph) → Apart rest → prefix_length rest ≡ Some (most_prefix, rest)
unfolding prefix_length
prefix_alone rest apart = rw apart.slash refl

prefix_reads : (l : ℕ) (rest : List Glyph) → l ≤ most_prefix → prefix_length (sign m.Slash ∷ figure l ∷ rest) ≡ Some (l, rest)
unfolding prefix_length within
prefix_reads l rest low = rw (le-leb l most_prefix low) refl

pub address_read : {A : Type 0} (then : ℕ → ℕ → A) (ts rest : List Glyph) (a l : ℕ) → Address ts a l → Apart rest → (address >>= (λ b. prefix_length >>= (λ k. pure (then b k)))) (ts ++ rest) ≡ Some (then a l, rest)
address_read then ts rest a l (whole o are) apart = rw (octets_read o rest are, prefix_alone rest apart) refl
address_read then ts rest a l (prefix o _ are low) apart = rw (octets_read o (sign m.Slash ∷ figure l ∷ rest) are, prefix_reads l rest low) refl

pub condition_reads : (ts rest : List Glyph) (c : Condition) → IsCondition ts c → Apart rest → a_condition (ts ++ rest) ≡ Some (c, rest)
unfolding a_condition source_rest dest_rest
condition_reads ts rest c (field f us low high range below) apart = rw (subject_of-field f) (bounds_read f us rest low high range below apart)
condition_reads ts rest c (protocol w n is) apart = rw is refl
condition_reads ts rest c (source us a l is) apart = address_read condition.Source us rest a l is apart
condition_reads ts rest c (dest us a l is) apart = address_read condition.Dest us rest a l is apart
condition_reads ts rest c ipv4 apart = refl
condition_reads ts rest c ipv6 apart = refl
