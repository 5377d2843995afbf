-- If no name is declared again and none is unknown, names identify nodes.
use Rattle.policy_core.proofs.Prelude.{List, ◌≡◌, ℕ, ap, sym, subst, [], arith, length, ◌<◌, ◌∷◌, refl, get_or, true, ◌++◌, ◌≤◌, false, length-append, not, ◌≢◌, and_parts, eqb-false, true_from_ne_false, list_all, cons_option, IsDistinct, option_map_or, bytes_eq, entry-at, within-entries, declared-distinct, declared-few, AreFew, is_known, is_declared, is_transaction_known, is_one_too_many, entries_of, AreRising, Name, declared, node_name, has, before, Entry, Sense, node, class, filtered, version, each, keep, pop, push, transaction, sense_of, Statement, most_nodes}
use Rattle.std.proofs.Common.{All}
use Rattle.policy_text_defs.specs.Sense.{leaf}
use Rattle.policy_rules.specs.Names.{children}
use Rattle.policy_rules.proofs.Lines.{entry_of}

-- each node's name is declared once, each listed child is declared, and there aren't too many nodes
pub record IsNamed (es : List Entry) : Type 0 where
  pub distinct : IsDistinct bytes_eq (declared node_name es)
  pub known : All (λ e. list_all (has (declared node_name es)) (children e.1) ≡ true) es
  pub few : length (declared node_name es) ≤ most_nodes

-- ---- consequences of the clauses for a node or leaf

not-again : (earlier : List Entry) (s : Sense) → is_declared earlier s ≡ false → option_map_or (has (declared node_name earlier)) (node_name s) false ≡ false
not-again earlier (version v) h = refl
not-again earlier (transaction n) h = refl
not-again earlier (keep n s) h = refl
not-again earlier (each n s) h = refl
not-again earlier (push n t) h = refl
not-again earlier (pop n t) h = refl
not-again earlier (class n a cs) h = refl
not-again earlier (filtered n a cs) h = refl
not-again earlier (leaf n u a q ns) h = h
not-again earlier (node n u a q ns) h = h

children-known : (es earlier : List Entry) (s : Sense) → is_known es earlier s ≡ true → list_all (has (declared node_name es)) (children s) ≡ true
children-known es earlier (version v) h = refl
children-known es earlier (transaction n) h = refl
children-known es earlier (keep n s) h = refl
children-known es earlier (each n s) h = refl
children-known es earlier (push n t) h = refl
children-known es earlier (pop n t) h = refl
children-known es earlier (class n a cs) h = refl
children-known es earlier (filtered n a cs) h = refl
children-known es earlier (leaf n u a q ns) h = refl
children-known es earlier (node n u a q ns) h = (and_parts (is_transaction_known es u) (list_all (has (declared node_name es)) ns) h).1

room-before : (earlier : List Entry) (s : Sense) → is_one_too_many earlier s ≡ false → length (declared node_name earlier) ≤ most_nodes → length (declared node_name earlier ++ cons_option (node_name s) []) ≤ most_nodes
room-before earlier (version v) h few = omega (arith, few, length-append (declared node_name earlier) [])
room-before earlier (transaction n) h few = omega (arith, few, length-append (declared node_name earlier) [])
room-before earlier (keep n s) h few = omega (arith, few, length-append (declared node_name earlier) [])
room-before earlier (each n s) h few = omega (arith, few, length-append (declared node_name earlier) [])
room-before earlier (push n t) h few = omega (arith, few, length-append (declared node_name earlier) [])
room-before earlier (pop n t) h few = omega (arith, few, length-append (declared node_name earlier) [])
room-before earlier (class n a cs) h few = omega (arith, few, length-append (declared node_name earlier) [])
room-before earlier (filtered n a cs) h few = omega (arith, few, length-append (declared node_name earlier) [])
room-before earlier (leaf n u a q ns) h few = (let ne : length (declared node_name earlier) ≢ most_nodes = eqb-false _ _ h in omega (arith, few, ne, length-append (declared node_name earlier) (n ∷ [])))
room-before earlier (node n u a q ns) h few = (let ne : length (declared node_name earlier) ≢ most_nodes = eqb-false _ _ h in omega (arith, few, ne, length-append (declared node_name earlier) (n ∷ [])))

pub some-entry : Entry
some-entry = (0, version 1)

pub named : (es : List Entry) → AreRising es → AreFew es → IsNamed es
named es rising few = record {
  distinct = declared-distinct node_name es rising not-again few.0.0.1;
  known = λ k d short. children-known es (before (get_or es k d).0 es) (get_or es k d).1 (true_from_ne_false _ (λ bad. few.0.1 k d short (ap not bad)));
  few = declared-few node_name es rising most_nodes room-before few.1;
}

pub few-names : (es : List Entry) (names : List Name) → names ≡ declared node_name es → IsNamed es → length names ≤ most_nodes
few-names es names is n = subst (λ (ns : List Name). length ns ≤ most_nodes) (sym is) n.few

-- the children of a line's statement are declared
pub known-at : (lines : List (ℕ × Statement)) (names : List Name) (i : ℕ) (l : ℕ × Statement) → names ≡ declared node_name (entries_of lines) → IsNamed (entries_of lines) → i < length lines → l ≡ get_or lines i l
    → list_all (has names) (children (sense_of l.1)) ≡ true
known-at lines names i l is n within item = subst (λ (ns : List Name). list_all (has ns) (children (sense_of l.1)) ≡ true) (sym is)
    (subst (λ (e : Entry). list_all (has (declared node_name (entries_of lines))) (children e.1) ≡ true) (entry-at lines i l (entry_of l) within item) (n.known i (entry_of l) (within-entries lines i within)))
