-- The contents of new buffers, and of written ones.
use Rattle.std.proofs.{Common.{◌≡◌, ℕ, List, [], Option, Some, None, Bool, true, false, refl, sym, ap, subst}, KnownBytes.prepend_known-nil, lemmas.{Bool.false≢true, List.append-nil}}
use Rattle.std.specs.{declared.io.buffered.{BufReader.BufReader, BufWriter.BufWriter}, Io.{KnownBytes.{Keeps, append_known}, Buffered.{reader_inner, reader_buffer, reader_capacity, reader_remaining, writer_inner, writer_buffer, writer_contents}}}

-- no bytes are unwritten
pub append_known-nil : (known : Option (List ℕ)) → append_known known [] ≡ known
append_known-nil None = refl
append_known-nil (Some xs) = ap Some (append-nil xs)

-- the bytes left in a new buffer are those left in its reader
pub new_reader :
    {T A : Type 0} (f : T → Option (List ℕ)) (r : BufReader T A) (x : T) → reader_inner r ≡ x → reader_buffer r ≡ []
    → reader_capacity r ≡ 65536 → reader_remaining f r ≡ f x
new_reader f r x inner empty room = rw (room, empty, inner) (prepend_known-nil (f x))

-- the contents of a new buffer are those of its writer
pub new_writer :
    {T A : Type 0} (f : T → Option (List ℕ)) (w : BufWriter T A) (x : T) → writer_inner w ≡ x → writer_buffer w ≡ []
    → writer_contents f w ≡ f x
new_writer f w x inner empty = rw (empty, inner) (append_known-nil (f x))

-- after the last call of a writer that has not failed no bytes are unwritten
pub closed_contents :
    (old new : Option (List ℕ)) (failed : Bool) → (failed ≡ false → Keeps old new)
    → (unwritten : List ℕ) × Keeps old (append_known new unwritten)
    → (unwritten : List ℕ) × (failed ≡ false → unwritten ≡ []) × Keeps old (append_known new unwritten)
closed_contents old new true written (unwritten, k) = (unwritten, (λ is. absurd (false≢true (sym is))), k)
closed_contents old new false written prefix =
    ([], (λ _. refl), subst (Keeps old) (sym (append_known-nil new)) (written refl))
