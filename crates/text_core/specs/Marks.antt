-- The marks of the language and their bytes.
use Rattle.std.specs.Prelude.{◌≡◌, refl, ℕ, Bool, true, false, List, [], ◌∷◌, map, Option, Some, None, if◌then◌else◌, codes}
use Rattle.std.specs.Str.{bytes_eq}
use Rattle.text_core.specs.declared.mark.Mark.{Mark}
use Rattle.text_core.specs.declared.mark.Mark.TheVariants as m

-- the spelling of a mark
abbrev pub mark_text : Mark → List ℕ
mark_text m.DotDot = codes ".."
mark_text m.Dot = codes "."
mark_text m.Slash = codes "/"
mark_text m.Plus = codes "+"
mark_text m.Minus = codes "-"
mark_text m.Star = codes "*"
mark_text m.Open = codes "("
mark_text m.Close = codes ")"
mark_text m.Comma = codes ","
mark_text m.Is = codes "="
mark_text m.Equal = codes "=="
mark_text m.NotEqual = codes "!="
mark_text m.Less = codes "<"
mark_text m.LessEq = codes "<="
mark_text m.More = codes ">"
mark_text m.MoreEq = codes ">="
mark_text m.OpenBrace = codes "{"
mark_text m.CloseBrace = codes "}"

-- the mark isn't a brace
abbrev pub is_classic : Mark → Bool
is_classic m.OpenBrace = false
is_classic m.CloseBrace = false
is_classic _ = true

abbrev pub is_mark_text : List ℕ → Mark → Bool
is_mark_text w m = bytes_eq w (mark_text m)

-- the mark with this spelling, if any
abbrev pub mark_of : List ℕ → Option Mark
mark_of w =
    if is_mark_text w m.DotDot then Some m.DotDot
    else (if is_mark_text w m.Dot then Some m.Dot
    else (if is_mark_text w m.Slash then Some m.Slash
    else (if is_mark_text w m.Plus then Some m.Plus
    else (if is_mark_text w m.Minus then Some m.Minus
    else (if is_mark_text w m.Star then Some m.Star
    else (if is_mark_text w m.Open then Some m.Open
    else (if is_mark_text w m.Close then Some m.Close
    else (if is_mark_text w m.Comma then Some m.Comma
    else (if is_mark_text w m.Is then Some m.Is
    else (if is_mark_text w m.Equal then Some m.Equal
    else (if is_mark_text w m.NotEqual then Some m.NotEqual
    else (if is_mark_text w m.Less then Some m.Less
    else (if is_mark_text w m.LessEq then Some m.LessEq
    else (if is_mark_text w m.More then Some m.More
    else (if is_mark_text w m.MoreEq then Some m.MoreEq
    else (if is_mark_text w m.OpenBrace then Some m.OpenBrace
    else (if is_mark_text w m.CloseBrace then Some m.CloseBrace
    else None)))))))))))))))))

marks_of_two_bytes : map mark_of (codes ".." ∷ codes "==" ∷ codes "!=" ∷ codes "<=" ∷ codes ">=" ∷ []) ≡ Some m.DotDot ∷ Some m.Equal ∷ Some m.NotEqual ∷ Some m.LessEq ∷ Some m.MoreEq ∷ []
marks_of_two_bytes = refl

marks_of_one_byte : map mark_of (codes "." ∷ codes "/" ∷ codes "+" ∷ codes "-" ∷ codes "*" ∷ codes "(" ∷ codes ")" ∷ codes "," ∷ codes "=" ∷ codes "<" ∷ codes ">" ∷ codes "{" ∷ codes "}" ∷ []) ≡ Some m.Dot ∷ Some m.Slash ∷ Some m.Plus ∷ Some m.Minus ∷ Some m.Star ∷ Some m.Open ∷ Some m.Close ∷ Some m.Comma ∷ Some m.Is ∷ Some m.Less ∷ Some m.More ∷ Some m.OpenBrace ∷ Some m.CloseBrace ∷ []
marks_of_one_byte = refl

no_marks : map mark_of (codes "" ∷ codes "!" ∷ codes "..." ∷ codes "=<" ∷ []) ≡ None ∷ None ∷ None ∷ None ∷ []
no_marks = refl
