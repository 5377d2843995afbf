-- The results of a sizing of a run, from the uses of its nodes.
use Rattle.size_core.proofs.Prelude.{◌≡◌, ◌∙◌, ℕ, length, sym, ap, List, arith, subst, ◌+◌, ◌<◌, IfSome, Some, [], refl, ◌∷◌, Option, suc, None, zero, map, Bool, inl, inr, ◌⊎◌, ◌*◌, slice_get, option_map, Vec, unwrap_or, Policy, sound_start, outcomes, start, Laid, leaf_of, Address, Watched, class_hops_in, watched_all, address_in, Keys, IsOnce, IsPathTo, addresses, places, figures_of, lines_of, AreUnused, line_with, crossing_in, name_in, HasSizes, Line, IsNameAt, Sized, line_of, unused_at, AreSizesOf, IsSizeOf, line_address, with_pushes, crossing_of, no_sizes, sizes_after, Use, Has, HaveUses, Watches, class_hops_of, Hop, Limits}
use Rattle.std.proofs.Common.{Global}
use Rattle.size_core.specs.declared.node.Node.{Node}
use Rattle.size_core.specs.declared.size.Sizes as size
use Rattle.size_core.specs.Laws.{SizesAreOfTheRun}
use Rattle.size_core.proofs.Lists.{each_weaker, in_range}
use Rattle.size_core.proofs.LineLists.{IsLineOf, each_line, line_there, line_once, known_at}
use Rattle.size_core.proofs.OrderLaws.{lines-in-order}
use Rattle.size_core.proofs.RunSizes.{Matches, matches_all, fine_run}

-- ---- the start
start_uses : (arities : List ℕ) (stores : Bool) (known : Keys) (nodes : List Node) → length nodes ≡ length known → AreUnused arities stores known nodes
    → HaveUses nodes (λ i. unused_at arities stores (unwrap_or (address_in known i) []))
start_uses arities stores known nodes same unused i = by (address_in known i) refl
  where
    none_there : (known : Keys) (nodes : List Node) (i : ℕ) (P : Node → Type 0) → length nodes ≡ length known → address_in known i ≡ None → IfSome (slice_get nodes i) P
    none_there known [] i P same e = tt
    none_there [] (n ∷ nodes) i P same e = absurd (omega (arith, same))
    none_there (x ∷ known) (n ∷ nodes) zero P same e = absurd (let no : Some x.items ≡ None = e in cc)
    none_there (x ∷ known) (n ∷ nodes) (suc i) P same e = none_there known nodes i P (omega (arith, same)) e

    by : (o : Option Address) → address_in known i ≡ o → IfSome (slice_get nodes i) (λ n. Has n (unused_at arities stores (unwrap_or (address_in known i) [])))
    by None e = none_there known nodes i (λ n. Has n (unused_at arities stores (unwrap_or (address_in known i) []))) same e
    by (Some b) e = subst (λ (o : Option Address). IfSome (slice_get nodes i) (λ n. Has n (unused_at arities stores (unwrap_or o [])))) (sym e) (unused i b e)

path_at : (class_hops : List (Vec Hop Global)) (n : ℕ) (P : List Hop → Type 0) → n < length class_hops → IfSome (slice_get class_hops n) (λ v. P v.items) → P (class_hops_in class_hops n)
path_at [] n P l h = absurd (omega (arith, l))
path_at (v ∷ class_hops) zero P l h = h
path_at (v ∷ class_hops) (suc n) P l h = path_at class_hops n P (omega (arith, l)) h

-- ---- the results
module _ (l : Laid) (policy : Policy) (known : Keys) (names : List (Option (List ℕ))) (once : IsOnce known) (named : (i : ℕ) (b : Address) → address_in known i ≡ Some b → IsNameAt l policy b (name_in names i)) where
  line_is : (s : Watched) (t : Sized) → Matches known s t → (n : Line) → IsLineOf known names s.uses (length known) n → IsSizeOf (t.uses n.address) n × IsNameAt l policy n.address n.name × 0 < n.pushes
  line_is s t m n is =
      let k = is.index in
      let b = unwrap_or (address_in known k) [] in
      let at : address_in known k ≡ Some b = known_at known k is.below in
      let line = line_with known names k (figures_of (s.uses k)) in
      let same : s.uses k ≡ t.uses b = m.uses k b at in
      subst (λ (z : Line). IsSizeOf (t.uses z.address) z × IsNameAt l policy z.address z.name × 0 < z.pushes) (sym is.is) (
        record {
          pushes = ap (λ (u : Use). u.pushes) same;
          most = ap (λ (u : Use). u.most) same;
          top = ap (λ (u : Use). u.top) same;
          span = ap (λ (u : Use). u.span) same;
          stores = ap (λ (u : Use). option_map (λ s. s.most) u.stores) same;
        },
        named k b at,
        is.pushed_there,
      )

  sizes_from : (s : Watched) (t : Sized) (r : size.Sizes) → Matches known s t → address_in known 0 ≡ Some [] → addresses known ≡ places l policy → map line_of r.nodes.items ≡ lines_of known names s.uses (length known)
      → r.entries ≡ (s.uses 0).most * (length l.arities + 1) → option_map crossing_of r.overflow ≡ option_map (crossing_in known) s.passed → AreSizesOf l policy t r
  sizes_from s t r m root order nodes entries overflow = record {
    each = λ i. subst (λ (z : List Line). IfSome (slice_get z i) (λ n. IsSizeOf (t.uses n.address) n × IsNameAt l policy n.address n.name × 0 < n.pushes)) (sym nodes)
        (each_weaker (λ k. IsLineOf known names s.uses (length known)) (λ k n. IsSizeOf (t.uses n.address) n × IsNameAt l policy n.address n.name × 0 < n.pushes) (lines_of known names s.uses (length known))
        (each_line known names s.uses (length known)) (λ k. line_is s t m) i);
    all = λ b some. subst (λ (z : List Line). (i : ℕ) × (line_address z i ≡ Some b)) (sym nodes) (there b some (m.others b));
    once = λ i j b. subst (λ (z : List Line). line_address z i ≡ Some b → line_address z j ≡ Some b → i ≡ j) (sym nodes) (line_once known names s.uses once (length known) (omega arith) i j b);
    order = ap (λ (ns : List Line). map (λ (n : Line). n.address) ns) nodes
        ∙ lines-in-order known names s.uses t.uses (length known) (λ i b e. ap (λ (u : Use). u.pushes) (m.uses i b e)) refl
        ∙ ap (λ (bs : List Address). with_pushes t.uses bs) order;
    entries = entries ∙ ap (λ (u : Use). u.most * (length l.arities + 1)) (m.uses 0 [] root);
    overflow = overflow ∙ m.crossing;
  }
    where
      there : (b : Address) → 0 < (t.uses b).pushes → ((i : ℕ) × (address_in known i ≡ Some b)) ⊎ ((t.uses b).pushes ≡ 0) → (i : ℕ) × (line_address (lines_of known names s.uses (length known)) i ≡ Some b)
      there b some (inr none) = absurd (omega (arith, some, none))
      there b some (inl (k, at)) =
          let pushes : 0 < (s.uses k).pushes = subst (λ (u : Use). 0 < u.pushes) (sym (m.uses k b at)) some in
          let found = line_there known names s.uses (length known) k (in_range known k b at) pushes in
          (found.0, ap (λ o. option_map (λ n. n.address) o) found.1 ∙ ap (λ o. Some (unwrap_or o [])) at)

-- ---- the run
pub sizes_are_of_the_run : SizesAreOfTheRun
sizes_are_of_the_run l policy limits stores event events before after r accepted can fits unused watches has =
    let os = outcomes policy events (start policy) in
    let known = before.known.keys in
    let nodes = before.queues.nodes.items in
    let s : Watched = record { uses = λ i. unused_at l.arities stores (unwrap_or (address_in known i) []); passed = None } in
    let first : Watches before s = record { nodes = start_uses l.arities stores known nodes unused.count unused.nodes; passed = unused.passed } in
    let last = watched_all before.queues.limits (class_hops_of before) event os s in
    let got : HasSizes after last r = has last (watches.uses s first) in
    let paths : (n : ℕ) → n < length policy.classes → IsPathTo known l.images (leaf_of policy n) (class_hops_of before n)
    = λ n less. path_at before.class_hops.items n (IsPathTo known l.images (leaf_of policy n)) (omega (arith, less, unused.class_hops)) (unused.paths n) in
    let matches = matches_all known unused.once l policy before.queues.limits (class_hops_of before) paths event os s (no_sizes l.arities stores)
    (fine_run policy accepted events (start policy) (sound_start policy accepted) can)
    (record { uses = λ i b e. ap (λ o. unused_at l.arities stores (unwrap_or o [])) e; others = λ b. inr refl; crossing = refl }) in
    let count : length after.queues.nodes.items ≡ length known = watches.stays.count ∙ unused.count in
    let same : after.known.keys ≡ known = ap (λ k. k.keys) watches.stays.known in
    let named : after.names.items ≡ before.names.items = ap (λ v. v.items) watches.stays.names in
    let some : 0 < length after.queues.nodes.items = omega (arith, count, in_range known 0 [] unused.root) in
    subst (λ (z : Limits). AreSizesOf l policy (sizes_after l policy z stores event os) r) unused.limits_are
    (sizes_from l policy known before.names.items unused.once unused.names last (sizes_after l policy before.queues.limits stores event os) r matches unused.root unused.places
    (got.nodes ∙ ap (λ (z : Keys). lines_of z after.names.items last.uses (length after.queues.nodes.items)) same
    ∙ ap (λ z. lines_of known z last.uses (length after.queues.nodes.items)) named ∙ ap (λ (n : ℕ). lines_of known before.names.items last.uses n) count)
    (got.entries some ∙ ap (λ (n : ℕ). (last.uses 0).most * (n + 1)) (watches.stays.height ∙ unused.height))
    (got.overflow ∙ ap (λ (z : Keys). option_map (crossing_in z) last.passed) same))
