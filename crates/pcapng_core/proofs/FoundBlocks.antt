-- The block at the front after a reader's steps, if the remaining bytes are known to the contract.
use Rattle.pcapng_core.proofs.Prelude.{◌≡◌, ℕ, List, sym, ◌∙◌, ap, arith, length, ◌+◌, Option, Some, subst, ◌<◌, None, IfSome, ◌++◌, refl, append_assoc, rest_of, TakesFront, Carried, BlockFault, block_cut, broken, front_of, Unit, IsStart, HasRoom, IsEndFault, IsReadTo, ReadsTo, front_len, body_said, captured_in, went, fault_in, kind_said, TakesBlock, Body, Packet, NgFault, Start}
use Rattle.pcapng_core.specs.declared.body.Body.TheVariants as body
use Rattle.pcapng_core.proofs.Blocks.{front-cut, end-broken}
use Rattle.pcapng_core.proofs.Bodies.{told}
use Rattle.pcapng_core.proofs.Found.{found-block, found-faulty}
use Rattle.pcapng_core.proofs.Rooms.{fits-least, front_len-least}

-- a property of a named fault that follows from another
pub some-map : {A : Type 0} (o : Option A) (P Q : A → Type 0) → ((x : A) → o ≡ Some x → P x → Q x) → IfSome o P → IfSome o Q
some-map None P Q f h = tt
some-map (Some x) P Q f h = f x refl h

-- a block read to its end from the bytes taken and those after them is read from all remaining
-- bytes
reads-whole : (s : Start) (n captured : ℕ) (into : List ℕ) (unit : Unit) (left rest front held others : List ℕ) → left ≡ front ++ (held ++ rest) → IsReadTo s n captured into unit ((front ++ held) ++ rest) others
    → IsReadTo s n captured into unit left others
reads-whole s n captured into unit left rest front held others split read =
    subst (λ xs. IsReadTo s n captured into unit xs others) (append_assoc front held rest ∙ sym split) read

-- a whole block that a reader went past
pub blocks-taken : (c : Carried) (s : Start) (b : Body) (front held into : List ℕ) (captured : ℕ) (unit : Unit) (y : Option Packet × Carried) (old left new : Option (List ℕ))
    → IfSome old (IsStart c s) → TakesFront old (rest_of held left) front → length front ≡ front_len s.kind → b ≡ body_said c s.big s.total front s.kind → captured ≡ captured_in b
    → ReadsTo s (length front) captured into unit (rest_of (front ++ held) left) new → HasRoom s (length front) captured → went c s.big unit b ≡ Some y
    → TakesBlock c (told into y.0) y.1 old new
blocks-taken c s b front held into captured unit y None left new start taken size said counted read room e = tt
blocks-taken c s b front held into captured unit y (Some old) None new start taken size said counted read room e = absurd taken
blocks-taken c s b front held into captured unit y (Some old) (Some left) None start taken size said counted read room e = absurd read
blocks-taken c s b front held into captured unit y (Some old) (Some left) (Some new) start taken size said counted read room e =
    found-block c s front into (held ++ left) captured unit old new start taken size (counted ∙ ap captured_in said)
    (reads-whole s (length front) captured into unit old left front held new taken read) room y (ap (went c s.big unit) (sym said) ∙ e)

-- a block at fault
pub blocks-faulty : (c : Carried) (s : Start) (b : Body) (e : NgFault) (front held into : List ℕ) (captured : ℕ) (unit : Unit) (old left new : Option (List ℕ))
    → IfSome old (IsStart c s) → TakesFront old (rest_of held left) front → length front ≡ front_len s.kind → b ≡ body_said c s.big s.total front s.kind → captured ≡ captured_in b
    → ReadsTo s (length front) captured into unit (rest_of (front ++ held) left) new → HasRoom s (length front) captured
    → (fault : BlockFault) → fault_in e ≡ Some fault → b ≡ body.Faulty e → IfSome old (λ rest. front_of c rest ≡ broken fault)
blocks-faulty c s b e front held into captured unit None left new start taken size said counted read room fault named is = tt
blocks-faulty c s b e front held into captured unit (Some old) None new start taken size said counted read room fault named is = absurd taken
blocks-faulty c s b e front held into captured unit (Some old) (Some left) None start taken size said counted read room fault named is = absurd read
blocks-faulty c s b e front held into captured unit (Some old) (Some left) (Some new) start taken size said counted read room fault named is =
    found-faulty c s front into (held ++ left) captured unit old new start taken size (counted ∙ ap captured_in said)
    (reads-whole s (length front) captured into unit old left front held new taken read) room e fault (sym said ∙ is) named

-- a block that is cut in its front
pub blocks-cut : (c : Carried) (s : Start) (front held : List ℕ) (fault : BlockFault) (old left : Option (List ℕ)) → IfSome old (IsStart c s) → TakesFront old (rest_of held left) front
    → fault ≡ block_cut (c.blocks + 1) → IfSome (rest_of (front ++ held) left) (λ xs. length xs < front_len s.kind) → IfSome old (λ rest. front_of c rest ≡ broken fault)
blocks-cut c s front held fault None left start taken is few = tt
blocks-cut c s front held fault (Some old) None start taken is few = absurd taken
blocks-cut c s front held fault (Some old) (Some left) start taken is few =
    front-cut c s old start (omega (arith, ap length (append_assoc front held left ∙ sym taken), few, front_len-least s.kind, fits-least (kind_said s.kind) s.total start.fits))
    ∙ ap broken (sym is)

-- a block that is cut after its front, or whose lengths differ
pub blocks-ended : (c : Carried) (s : Start) (number : ℕ) (front held : List ℕ) (fault : BlockFault) (old left : Option (List ℕ)) → IfSome old (IsStart c s) → TakesFront old (rest_of held left) front
    → number ≡ c.blocks + 1 → IfSome (rest_of (front ++ held) left) (λ xs. IsEndFault s number xs fault) → IfSome old (λ rest. front_of c rest ≡ broken fault)
blocks-ended c s number front held fault None left start taken same end = tt
blocks-ended c s number front held fault (Some old) None start taken same end = absurd taken
blocks-ended c s number front held fault (Some old) (Some left) start taken same end =
    end-broken c s number old fault start same (subst (λ xs. IsEndFault s number xs fault) (append_assoc front held left ∙ sym taken) end)
