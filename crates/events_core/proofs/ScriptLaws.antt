-- A text is one script, or has one first error.
use Rattle.events_core.proofs.Prelude.{sym, ◌∙◌, ◌≡◌, arith, refl, subst, ◌++◌, List, [], ap, length, ℕ, ◌+◌, ◌∷◌, ◌≤◌, Some, append_assoc, drop, inl, inr, ◌⊎◌, Err, Ok, Result, length-append, length-drop, map, suc, ◌<◌, append-nil, length-map, map-append, statements_of, Follow, line_text, Carries, IsFirstFault, IsScript, Carry, most_bytes, most_count, over, IsAtFault, next, counts_of, line_steps, ScriptFault, Step}
use Rattle.std.specs.Prelude.{MatchResult}
use Rattle.text_core.specs.declared.line.Line.{Line}
use Rattle.text_core.proofs.LineLaws.{Follow-Hold, Hold-whole}
use Rattle.text_core.proofs.LineLemmas.{Follow-join}
use Rattle.text_core.proofs.SaysLaws.{Says-one}
use Rattle.events_core.specs.declared.fault.ScriptFault.TheVariants as fault

-- a line requests only one list of steps
pub Carries-one : (l : List ℕ) (s t : List Step) → Carries l s → Carries l t → s ≡ t
Carries-one l s t a b =
    let glyphs : a.glyphs ≡ b.glyphs = Says-one l a.glyphs b.glyphs a.says b.says in
    let same : Some s ≡ Some t = sym a.form ∙ ap line_steps glyphs ∙ b.form in
    cc

pub counts-append : (s t : List Step) → counts_of (s ++ t) ≡ counts_of s + counts_of t
counts-append [] t = omega arith
counts-append (x ∷ s) t = let rest = counts-append s t in omega arith

pub Carry-one : (ls : List (List ℕ)) (s t : List Step) → Carry ls s → Carry ls t → s ≡ t
Carry-one [] _ _ over over = refl
Carry-one (l ∷ ls) _ _ (next _ _ s ss c rest) (next _ _ t ts d more) =
    ap (λ x. x ++ ss) (Carries-one l s t c d) ∙ ap (λ x. t ++ x) (Carry-one ls ss ts rest more)

-- one more line
pub Carry-push : (ls : List (List ℕ)) (ss : List Step) (l : List ℕ) (s : List Step) → Carry ls ss → Carries l s → Carry (ls ++ l ∷ []) (ss ++ s)
Carry-push [] _ l s over c = subst (Carry (l ∷ [])) (append-nil s) (next l [] s [] c over)
Carry-push (k ∷ ls) _ l s (next _ _ t ts d rest) c = subst (Carry (k ∷ (ls ++ l ∷ []))) (sym (append_assoc t ts s)) (next k (ls ++ l ∷ []) t (ts ++ s) d (Carry-push ls ts l s rest c))

-- a well-formed line that stays within the count limit has no error
sound_line : (n : ℕ) (l : List ℕ) (s : List Step) (m : ℕ) (f : ScriptFault) → Carries l s → n + counts_of s ≤ most_count → IsAtFault n l m f → ⊥
sound_line n l s m (fault.Line k) c few f = f.1 s c
sound_line n l s m (fault.TooMany k) c few f =
    let same = Carries-one l s f.1.steps c f.1.carries in
    let counts = ap counts_of same in
    let many = f.1.many in
    omega arith
sound_line n l s m fault.TooLong c few f = f
sound_line n l s m fault.NoMemory c few f = f

-- a line has only one error
same_fault : (n : ℕ) (l : List ℕ) (m : ℕ) (f g : ScriptFault) → IsAtFault n l m f → IsAtFault n l m g → f ≡ g
same_fault n l m (fault.Line j) (fault.Line k) a b = ap fault.Line (a.0 ∙ sym b.0)
same_fault n l m (fault.TooMany j) (fault.TooMany k) a b = ap fault.TooMany (a.0 ∙ sym b.0)
same_fault n l m (fault.Line j) (fault.TooMany k) a b = absurd (a.1 b.1.steps b.1.carries)
same_fault n l m (fault.TooMany j) (fault.Line k) a b = absurd (b.1 a.1.steps a.1.carries)
same_fault n l m fault.TooLong g a b = absurd a
same_fault n l m fault.NoMemory g a b = absurd a
same_fault n l m f fault.TooLong a b = absurd b
same_fault n l m f fault.NoMemory a b = absurd b

-- two derivations of the first error agree: n is counted and k lines come before both
first_fault : (n k : ℕ) (b c : List (List ℕ)) (s t : List Step) (l m : List ℕ) (a z : List (List ℕ)) (f g : ScriptFault) → Carry b s → Carry c t → n + counts_of s ≤ most_count → n + counts_of t ≤ most_count → IsAtFault (n + counts_of s) l (k + (length b + 1)) f → IsAtFault (n + counts_of t) m (k + (length c + 1)) g → b ++ l ∷ a ≡ c ++ m ∷ z → f ≡ g
first_fault n k [] [] _ _ l m a z f g over over few low x y e =
    let same : m ≡ l = cc in
    same_fault (n + 0) l (k + (0 + 1)) f g x (subst (λ v. IsAtFault (n + 0) v (k + (0 + 1)) g) same y)
first_fault n k [] (_ ∷ _) _ _ l m a z f g over (next h c t ts d more) few low x y e =
    let same : h ≡ l = cc in
    let counts = counts-append t ts in
    absurd (sound_line (n + 0) l t (k + (0 + 1)) f (subst (λ v. Carries v t) same d) (omega arith) x)
first_fault n k (_ ∷ _) [] _ _ l m a z f g (next h b s ss d rest) over few low x y e =
    let same : h ≡ m = cc in
    let counts = counts-append s ss in
    absurd (sound_line (n + 0) m s (k + (0 + 1)) g (subst (λ v. Carries v s) same d) (omega arith) y)
first_fault n k (_ ∷ _) (_ ∷ _) _ _ l m a z f g (next h b s ss d rest) (next i c t ts p more) few low x y e =
    let heads : i ≡ h = cc in
    let tails : b ++ l ∷ a ≡ c ++ m ∷ z = cc in
    let steps : t ≡ s = sym (Carries-one h s t d (subst (λ v. Carries v t) heads p)) in
    let counts = counts-append s ss in
    let others = counts-append t ts in
    let same = ap counts_of steps in
    let first : n + counts_of (s ++ ss) ≡ n + counts_of s + counts_of ss = omega arith in
    let second : n + counts_of (t ++ ts) ≡ n + counts_of s + counts_of ts = omega arith in
    let place : k + (length (h ∷ b) + 1) ≡ suc k + (length b + 1) = omega arith in
    let place_too : k + (length (i ∷ c) + 1) ≡ suc k + (length c + 1) = omega arith in
    first_fault (n + counts_of s) (suc k) b c ss ts l m a z f g rest more (omega arith) (omega arith)
    (subst (λ v. IsAtFault v l (suc k + (length b + 1)) f) first (subst (λ v. IsAtFault (n + counts_of (s ++ ss)) l v f) place x))
    (subst (λ v. IsAtFault v m (suc k + (length c + 1)) g) second (subst (λ v. IsAtFault (n + counts_of (t ++ ts)) m v g) place_too y))
    tails

-- well-formed lines within the count limit include no line with an error
no_fault : (n k : ℕ) (b : List (List ℕ)) (s : List Step) (l : List ℕ) (a : List (List ℕ)) (f : ScriptFault) (ls : List (List ℕ)) (ss : List Step) → Carry b s → Carry ls ss → n + counts_of ss ≤ most_count → IsAtFault (n + counts_of s) l k f → ls ≡ b ++ l ∷ a → ⊥
no_fault n k [] _ l a f [] _ over over few x e = cc
no_fault n k [] _ l a f (_ ∷ _) _ over (next h ls t ts d more) few x e =
    let same : h ≡ l = cc in
    let counts = counts-append t ts in
    sound_line (n + 0) l t k f (subst (λ v. Carries v t) same d) (omega arith) x
no_fault n k (_ ∷ _) _ l a f [] _ (next h b s ss d rest) over few x e = cc
no_fault n k (_ ∷ _) _ l a f (_ ∷ _) _ (next h b s ss d rest) (next i ls t ts p more) few x e =
    let heads : i ≡ h = cc in
    let tails : ls ≡ b ++ l ∷ a = cc in
    let steps : t ≡ s = sym (Carries-one h s t d (subst (λ v. Carries v t) heads p)) in
    let counts = counts-append s ss in
    let others = counts-append t ts in
    let same = ap counts_of steps in
    let first : n + counts_of (s ++ ss) ≡ n + counts_of s + counts_of ss = omega arith in
    no_fault (n + counts_of s) k b ss l a f ls ts rest more (omega arith) (subst (λ v. IsAtFault v l k f) first x) tails

pub IsScript-one : (text : List ℕ) (s t : List Step) → IsScript text s → IsScript text t → s ≡ t
IsScript-one text s t a b = Carry-one (statements_of text) s t a.lines b.lines

-- nothing is counted before the first line
from_zero : (n : ℕ) (l : List ℕ) (m : ℕ) (f : ScriptFault) → IsAtFault n l m f → IsAtFault (0 + n) l (0 + m) f
from_zero n l m f x =
    let count : n ≡ 0 + n = omega arith in
    let place : m ≡ 0 + m = omega arith in
    subst (λ v. IsAtFault (0 + n) l v f) place (subst (λ v. IsAtFault v l m f) count x)

pub IsFirstFault-one : (text : List ℕ) (f g : ScriptFault) → IsFirstFault text f → IsFirstFault text g → f ≡ g
IsFirstFault-one text f g a b =
    let x = from_zero (counts_of a.steps) a.line (length a.before + 1) f a.at_fault in
    let y = from_zero (counts_of b.steps) b.line (length b.before + 1) g b.at_fault in
    first_fault 0 0 a.before b.before a.steps b.steps a.line b.line a.after b.after f g a.carry b.carry (omega (arith, a.few)) (omega (arith, b.few)) x y (sym a.split ∙ b.split)

pub IsScript-IsFirstFault : (text : List ℕ) (s : List Step) (f : ScriptFault) → IsScript text s → IsFirstFault text f → ⊥
IsScript-IsFirstFault text s f a b =
    let count : counts_of b.steps ≡ 0 + counts_of b.steps = omega arith in
    let x : IsAtFault (0 + counts_of b.steps) b.line (length b.before + 1) f = subst (λ v. IsAtFault v b.line (length b.before + 1) f) count b.at_fault in
    no_fault 0 (length b.before + 1) b.before b.steps b.line b.after f (statements_of text) s b.carry a.lines (omega (arith, a.few)) x b.split

-- the first error is at a line
pub IsFirstFault-line : (text : List ℕ) → IsFirstFault text fault.TooLong → ⊥
IsFirstFault-line text a = a.at_fault

-- ---- line by line

-- the part of a text that was read, up to an offset: the number of lines, their steps and their
-- counts
pub record IsRead (text : List ℕ) (at : ℕ) (steps : List Step) (counted number : ℕ) : Type 0 where
  pub lines : List Line
  pub follow : Follow text 0 lines at
  pub carry : Carry (map (line_text text) lines) steps
  pub count : counted ≡ counts_of steps
  pub few : counted ≤ most_count
  pub size : number ≡ length lines

pub none_read : (text : List ℕ) (steps : List Step) → steps ≡ [] → IsRead text 0 steps 0 0
none_read text steps none = record { lines = []; follow = refl; carry = subst (Carry []) (sym none) over; count = ap counts_of (sym none); few = omega arith; size = refl }

-- each line takes at least one byte, except maybe the last
pub few_lines : (text : List ℕ) (at : ℕ) (steps : List Step) (counted number : ℕ) → IsRead text at steps counted number → at < length text → number ≤ at
few_lines text at steps counted number read inside =
    let count = (Follow-Hold text 0 read.lines at read.follow).count in
    let left = length-drop at text in
    let size = read.size in
    omega arith

-- one more line
pub line_more : (text : List ℕ) (at to : ℕ) (l : Line) (steps more whole : List Step) (counted number sum : ℕ) → IsRead text at steps counted number → Follow text at (l ∷ []) to → Carries (line_text text l) more → counted + counts_of more ≤ most_count → whole ≡ steps ++ more → sum ≡ counted + counts_of more → IsRead text to whole sum (number + 1)
line_more text at to l steps more whole counted number sum read follow carries few steps_are sum_is =
    let lines : map (line_text text) read.lines ++ line_text text l ∷ [] ≡ map (line_text text) (read.lines ++ l ∷ []) = sym (map-append (line_text text) read.lines (l ∷ [])) in
    let carry : Carry (map (line_text text) (read.lines ++ l ∷ [])) (steps ++ more) = subst (λ ls. Carry ls (steps ++ more)) lines (Carry-push (map (line_text text) read.lines) steps (line_text text l) more read.carry carries) in
    let counts = counts-append steps more in
    let count = read.count in
    let both = ap counts_of steps_are in
    let size = read.size in
    let longer : length (read.lines ++ l ∷ []) ≡ length read.lines + 1 = length-append read.lines (l ∷ []) in
    record {
      lines = read.lines ++ l ∷ [];
      follow = Follow-join text 0 read.lines at (l ∷ []) to read.follow follow;
      carry = subst (Carry (map (line_text text) (read.lines ++ l ∷ []))) (sym steps_are) carry;
      count = omega arith;
      few = omega arith;
      size = omega arith;
    }

-- an error in the next line is the text's first error
pub fault_here : (text : List ℕ) (at to : ℕ) (l : Line) (steps : List Step) (counted number : ℕ) (f : ScriptFault) → length text ≤ most_bytes → IsRead text at steps counted number → Follow text at (l ∷ []) to → IsAtFault counted (line_text text l) (number + 1) f → IsFirstFault text f
fault_here text at to l steps counted number f short read follow wrong =
    let front = map (line_text text) read.lines in
    let size : number ≡ length front = read.size ∙ sym (length-map read.lines (line_text text)) in
    let count = read.count in
    let few = read.few in
    record {
      short = short;
      before = front;
      line = line_text text l;
      after = statements_of (drop to text);
      split = (Follow-Hold text 0 read.lines at read.follow).texts ∙ ap (λ ls. front ++ ls) (Follow-Hold text at (l ∷ []) to follow).texts;
      steps = steps;
      carry = read.carry;
      few = omega arith;
      at_fault = subst (λ n. IsAtFault (counts_of steps) (line_text text l) (n + 1) f) size (subst (λ n. IsAtFault n (line_text text l) (number + 1) f) count wrong);
    }

-- a text that was read to its end is the script
pub all_lines : (text : List ℕ) (at : ℕ) (steps : List Step) (counted number : ℕ) → length text ≤ most_bytes → IsRead text at steps counted number → length text ≤ at → IsScript text steps
all_lines text at steps counted number short read end =
    let whole = Hold-whole text read.lines at (Follow-Hold text 0 read.lines at read.follow) end in
    let count = read.count in
    let few = read.few in
    record { short = short; lines = subst (λ ls. Carry ls steps) whole read.carry; few = omega arith }

-- an error that is reported, unless it is out of memory
pub fault_found : (text : List ℕ) (at to : ℕ) (l : Line) (steps : List Step) (counted number : ℕ) (f : ScriptFault) → length text ≤ most_bytes → IsRead text at steps counted number → Follow text at (l ∷ []) to → (f ≡ fault.NoMemory) ⊎ IsAtFault counted (line_text text l) (number + 1) f → (f ≡ fault.NoMemory) ⊎ IsFirstFault text f
fault_found text at to l steps counted number f short read follow (inl e) = inl e
fault_found text at to l steps counted number f short read follow (inr x) = inr (fault_here text at to l steps counted number f short read follow x)

-- ---- the meaning of an answer

abbrev Answer : Type 0
Answer = Result (List Step) ScriptFault

abbrev Right : List ℕ → Answer → Type 0
Right text r = MatchResult r (IsScript text) (λ f. (f ≡ fault.NoMemory) ⊎ IsFirstFault text f)

pub told : (text : List ℕ) (r : Answer) (f : ScriptFault) → Right text r → r ≡ Err f → (f ≡ fault.NoMemory → ⊥) → IsFirstFault text f
told text (Ok s) f right e some = absurd cc
told text (Err g) f (inl memory) e some =
    let same : f ≡ g = cc in
    absurd (some (same ∙ memory))
told text (Err g) f (inr x) e some =
    let same : g ≡ f = cc in
    subst (IsFirstFault text) same x

pub accepted : (text : List ℕ) (r : Answer) (s : List Step) → Right text r → IsScript text s → MatchResult r (λ t. t ≡ s) (λ f. f ≡ fault.NoMemory)
accepted text (Ok t) s right script = IsScript-one text t s right script
accepted text (Err f) s (inl memory) script = memory
accepted text (Err f) s (inr x) script = absurd (IsScript-IsFirstFault text s f script x)

pub refused : (text : List ℕ) (r : Answer) (f : ScriptFault) → Right text r → IsFirstFault text f → MatchResult r (λ t. ⊥) (λ g. (g ≡ f) ⊎ (g ≡ fault.NoMemory))
refused text (Ok t) f right x = IsScript-IsFirstFault text t f right x
refused text (Err g) f (inl memory) x = inr memory
refused text (Err g) f (inr y) x = inl (IsFirstFault-one text g f y x)
