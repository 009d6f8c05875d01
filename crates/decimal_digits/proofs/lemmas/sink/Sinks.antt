-- The prefix of a text that a sink has accepted, piece by piece.
use Rattle.std.proofs.Common.{◌≡◌, ℕ, ◌+◌, ◌-◌, ◌<◌, ◌⊎◌, false, List, [], ◌++◌, length, take, drop, refl, sym, subst, ◌∙◌, ap, arith, Bool, Option, None, Some, append_assoc, take-append-drop}
use Rattle.std.proofs.{KnownBytes.{Appends-kept, Appends-trans, append_known-moved, append_known-passed}, Math.Seq.{take-add, take-length}}
use Rattle.std.proofs.lemmas.List.{append-nil, length-drop}
use Rattle.std.specs.Io.KnownBytes.{Keeps, Appends, append_known}
use Rattle.decimal_digits.specs.AppendsPrefix.{AppendsPrefix}

-- a prefix of a text is a prefix of a longer text
pub prefix_more : (a b : Option (List ℕ)) (xs ys : List ℕ) → AppendsPrefix a b xs → AppendsPrefix a b (xs ++ ys)
prefix_more a b xs ys (part, rest, e, p) = (part, rest ++ ys, sym (append_assoc part rest ys) ∙ ap (λ l. l ++ ys) e, p)

-- a text and then a prefix of the next
pub then_prefix : (a b c : Option (List ℕ)) (xs ys : List ℕ) → Appends a b xs → AppendsPrefix b c ys
    → AppendsPrefix a c (xs ++ ys)
then_prefix a b c xs ys q (part, rest, e, p) =
    (xs ++ part, rest, append_assoc xs part rest ∙ ap (λ l. xs ++ l) e, Appends-trans a b c xs part q p)

-- the first i bytes of a text were accepted, and no more
pub prefix_kept : (a b c : Option (List ℕ)) (i : ℕ) (xs : List ℕ) → Appends a b (take i xs) → Keeps b c
    → AppendsPrefix a c xs
prefix_kept a b c i xs p q = (take i xs, drop i xs, take-append-drop i xs, Appends-kept a b c _ p q)

-- the remaining bytes are those after the first t
all_left : (t : ℕ) (bytes : List ℕ) → take (length bytes - t) (drop t bytes) ≡ drop t bytes
all_left t bytes = rw (← length-drop t bytes) (take-length (drop t bytes))

-- n more of the remaining bytes were accepted
pub took_more :
    (a b c : Option (List ℕ)) (t n : ℕ) (bytes : List ℕ) → Appends a b (take t bytes)
    → Appends b c (take n (take (length bytes - t) (drop t bytes))) → Appends a c (take (t + n) bytes)
took_more a b c t n bytes p q = grind (arith, all_left, take-add, Appends-trans)

-- ---- a block before a writer
-- an empty block
pub append_known-nil : (known : Option (List ℕ)) → append_known known [] ≡ known
append_known-nil None = refl
append_known-nil (Some xs) = ap Some (append-nil xs)

-- the block was empty, and the writer took the first n bytes of a text
module _
    (a b c : Option (List ℕ)) (block : List ℕ) (n : ℕ) (xs : List ℕ) (kept : Keeps a (append_known b block))
    (none : block ≡ []) (taken : Appends b c (take n xs))
  where
    passed : Appends a (append_known c block) (take n xs)
    passed =
        subst (Appends a (append_known c block)) (append-nil (take n xs))
        (append_known-passed a b c block block (take n xs) [] kept none taken (sym (append-nil block)))

    pub prefix_passed : AppendsPrefix a (append_known c block) xs
    prefix_passed = (take n xs, drop n xs, take-append-drop n xs, passed)

    -- of one byte it took none
    pub none_passed : n < length xs → length xs ≡ 1 → Keeps a (append_known c block)
    none_passed below one =
        let zero : n ≡ 0 = omega (arith, below, one) in
        Keeps-nil a (append_known c block) (subst (λ k. Appends a (append_known c block) (take k xs)) zero passed)
      where
        Keeps-nil : (a b : Option (List ℕ)) → Appends a b [] → Keeps a b
        Keeps-nil None b p = tt
        Keeps-nil (Some x) None p = absurd p
        Keeps-nil (Some x) (Some y) p = p ∙ append-nil x

-- the writer took the first n bytes of the block
pub moved : (a b : Option (List ℕ)) (n : ℕ) (block : List ℕ) → Appends a b (take n block)
    → Keeps (append_known a block) (append_known b (drop n block))
moved a b n block p =
    append_known-moved a b (take n block) (drop n block) block p (sym (take-append-drop n block))

-- ---- a sink that had failed before
-- after `count` pieces: the sink is unchanged and `count` is 0, or it had not failed at first
abbrev pub IsFresh : {S : Type 0} → (S → Bool) → ℕ → S → S → Type 0
IsFresh has_failed count first now = ((count ≡ 0) × (now ≡ first)) ⊎ (has_failed first ≡ false)

-- if the sink has not failed now, it had not failed at first
pub fresh_more : {S : Type 0} (has_failed : S → Bool) (count : ℕ) (first now : S)
    → IsFresh has_failed count first now → has_failed now ≡ false → has_failed first ≡ false
fresh_more has_failed count first now fresh h = grind (arith)

-- after at least one piece the sink had not failed at first
pub fresh_some : {S : Type 0} (has_failed : S → Bool) (count : ℕ) (first now : S)
    → IsFresh has_failed count first now → 0 < count → has_failed first ≡ false
fresh_some has_failed count first now fresh h = grind (arith)
