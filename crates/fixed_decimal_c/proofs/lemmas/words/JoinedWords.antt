-- Words that are placed one after another: their offsets grow by the number of bytes before them.
use Rattle.std.proofs.{Common.{◌≡◌, ℕ, ◌+◌, ◌≤◌, List, ◌++◌, length, take, drop, sym, ap, ◌∙◌, arith, length-append, length-drop}, Math.Seq.drop-append-add, lemmas.List.{take-append-le, drop-append-le}}
use Rattle.fixed_decimal.specs.declared.runs.Call.{Call, TheVariants.{MultiplyPow10, TrimStart, TrimEnd, TrimEndIfInteger, PadStart, PadEnd, SetMaxPosition, Round, SetSign, ApplySignDisplay, Concatenate}}
use Rattle.fixed_decimal_c.specs.{declared.calls.FdCall.FdCall, Calls.{IsPart, IsCall}, Words.moved_call}

-- a part of a word is the same part of the joined words
pub part_of_joined :
    (before word after : List ℕ) (start count : ℕ) (t : List ℕ) → IsPart word start count t
    → IsPart (before ++ (word ++ after)) (length before + start) count t
part_of_joined before word after start count t (inside, is) =
    let rest = drop start word in
    let dropped : drop (length before + start) (before ++ (word ++ after)) ≡ rest ++ after =
    drop-append-add before (word ++ after) start ∙ drop-append-le start word after (omega arith) in
    let long : count ≤ length rest = omega (arith, length-drop start word) in (
      omega (arith, length-append before (word ++ after), length-append word after),
      is ∙ sym (ap (take count) dropped ∙ take-append-le count rest after long),
    )

-- over the joined words, the call of a word is the same call
pub call_of_joined :
    (before word after : List ℕ) (c : FdCall) (call : Call) → IsCall c word call
    → IsCall (moved_call (length before) c) (before ++ (word ++ after)) call
call_of_joined before word after c (MultiplyPow10 delta) h = h
call_of_joined before word after c TrimStart h = h
call_of_joined before word after c TrimEnd h = h
call_of_joined before word after c TrimEndIfInteger h = h
call_of_joined before word after c (PadStart position) h = h
call_of_joined before word after c (PadEnd position) h = h
call_of_joined before word after c (SetMaxPosition position) h = h
call_of_joined before word after c (Round position m i) h = h
call_of_joined before word after c (SetSign s) h = h
call_of_joined before word after c (ApplySignDisplay d) h = h
call_of_joined before word after c (Concatenate t) (kind, part) =
    (kind, part_of_joined before word after c.text_start c.text_count t.now part)
