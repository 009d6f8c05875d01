-- The words of a program that does not end before its work.
use Rattle.std.proofs.Common.{◌≡◌, List, String, Ok, Err, sym, subst}
use Rattle.std.specs.declared.alloc.Global.{Global}
use Rattle.cli.specs.{declared.program.help.Program.Program, Arguments.{Arguments, HaveWords, IsRequest}}

map_words :
    (arguments : Arguments) {P Q : List (String Global) → Type 0} → HaveWords arguments P
    → ((words : List (String Global)) → P words → Q words) → HaveWords arguments Q
map_words (Ok arguments) h f = f _ h
map_words (Err error) h f = absurd h

-- words that are no request are none
pub no_request :
    (program : Program) (arguments : Arguments) (words : List (String Global))
    → HaveWords arguments (λ all. (words ≡ all) × ¬ IsRequest program words)
    → HaveWords arguments (IsRequest program) → ⊥
no_request program (Ok arguments) words (e, none) asked = none (subst (IsRequest program) (sym e) asked)
no_request program (Err error) words is asked = asked

-- the words are these, and are no request
pub have_words :
    (program : Program) (arguments : Arguments) (words : List (String Global)) (P : List (String Global) → Type 0)
    → HaveWords arguments (λ all. (words ≡ all) × ¬ IsRequest program words) → P words
    → HaveWords arguments (λ all. ¬ IsRequest program all × P all)
have_words program arguments words P is holds =
    map_words arguments is (λ all (e, none). subst (λ w. ¬ IsRequest program w × P w) e (none, holds))
