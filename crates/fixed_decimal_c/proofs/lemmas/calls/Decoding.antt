-- One call more.
use Rattle.std.proofs.{Common.{ℕ, ◌+◌, ◌<◌, List, [], ◌∷◌, ◌++◌, length, get_or, set, take, sym, subst}, lemmas.{List.{take_more, take_more_set}, Option.slice_get-get_or}}
use Rattle.std.specs.Prelude.{IsSomeAnd, slice_get}
use Rattle.fixed_decimal.specs.declared.runs.Call.{Call}
use Rattle.fixed_decimal_c.specs.{declared.calls.FdCall.FdCall, Calls.{IsCall, AreCalls}}

-- one more call is one more of the list
calls_more : (cs : List FdCall) (texts : List ℕ) (ls : List Call) (c : FdCall) (call : Call) → AreCalls cs texts ls
    → IsCall c texts call → AreCalls (cs ++ (c ∷ [])) texts (ls ++ (call ∷ []))
calls_more [] texts [] c call h k = (k, tt)
calls_more (x ∷ cs) texts (y ∷ ls) c call (p, h) k = (p, calls_more cs texts ls c call h k)
calls_more cs texts ls c call h k = absurd h

pub decodes_more : (cs : List FdCall) (texts : List ℕ) (ls : List Call) (at : ℕ) (d : FdCall) (call : Call)
    → at < length cs → AreCalls (take at cs) texts ls → IsCall (get_or cs at d) texts call
    → AreCalls (take (at + 1) cs) texts (ls ++ (call ∷ []))
decodes_more cs texts ls at d call h a k =
    subst (λ (xs : List FdCall). AreCalls xs texts (ls ++ (call ∷ []))) (sym (take_more cs at d h))
    (calls_more (take at cs) texts ls (get_or cs at d) call a k)

-- the call with this number is unknown
pub unknown_at : (cs : List FdCall) (texts : List ℕ) (at : ℕ) (d : FdCall) → at < length cs
    → ((call : Call) → IsCall (get_or cs at d) texts call → ⊥)
    → IsSomeAnd (slice_get cs at) (λ c. (call : Call) → IsCall c texts call → ⊥)
unknown_at cs texts at d h unknown = rw (slice_get-get_or cs at d h) unknown

-- the same where the list has room, and the call is written at its place
pub decodes_set : (cs : List FdCall) (texts : List ℕ) (list : List Call) (at : ℕ) (d : FdCall) (call : Call)
    → at < length cs → at < length list → AreCalls (take at cs) texts (take at list)
    → IsCall (get_or cs at d) texts call
    → AreCalls (take (at + 1) cs) texts (take (at + 1) (set list at call))
decodes_set cs texts list at d call h inside a k =
    subst (AreCalls (take (at + 1) cs) texts) (sym (take_more_set list at call inside))
    (decodes_more cs texts (take at list) at d call h a k)
