-- Lists of parts, as they grow by pieces.
use Rattle.std.proofs.{Common.{ℕ, zero, suc, ◌≡◌, ◌≢◌, ◌+◌, ◌-◌, ◌<◌, ◌≤◌, ◌^◌, ◌⊎◌, inl, inr, Bool, true, false, List, [], ◌∷◌, ◌++◌, length, take, drop, set, get_or, reverse, Result, Ok, Err, refl, sym, ◌∙◌, ap, subst, arith, eq-eqb, length-append}, lemmas.{Bool.ne_eqb, Grind.{flat_map-append, fold-append, reverse_onto}, List.{append-nil, Concat.flat_map-cons, take_more_set, take_all, length-reverse}}, Math.Seq.take-append_seam}
use Rattle.std.specs.Prelude.{◌==◌, if◌then◌else◌, OnOk, OnErr}
use Rattle.decimal_digits.specs.declared.sink.SinkFault.{SinkFault}
use Rattle.number_format.specs.{declared.format.text_part.PartKind.PartKind, TextParts.{Piece, Puts, pieces_text}}
use Rattle.fixed_decimal_c.specs.{declared.parts.FdPart.FdPart, Parts.{kind_code, part_from, with_bytes, with_piece, parts_down, parts_of, last_of, no_part, IsPartList, HasTaken}}

-- ---- One step.

pub no_bytes : (len kind : ℕ) (parts : List FdPart) → len ≡ 0 → with_bytes len kind parts ≡ parts
no_bytes len kind parts z = ap (λ n. with_bytes n kind parts) z

pub same_kind : (len kind : ℕ) (last : FdPart) (parts : List FdPart) → 0 < len → last.kind ≡ kind
    → with_bytes len kind (last ∷ parts) ≡ record last { end = last.end + len } ∷ parts
same_kind zero kind last parts h e = absurd (omega (arith, h))
same_kind (suc n) kind last parts h e =
    ap (λ b. if b then record last { end = last.end + suc n } ∷ parts
    else part_from last.end kind (suc n) ∷ last ∷ parts) (eq-eqb last.kind kind e)

pub next_kind : (len kind : ℕ) (parts : List FdPart) → 0 < len → (length parts ≡ 0) ⊎ ((last_of parts).kind ≢ kind)
    → with_bytes len kind parts ≡ part_from (last_of parts).end kind len ∷ parts
next_kind zero kind parts h e = absurd (omega (arith, h))
next_kind (suc n) kind [] h e = refl
next_kind (suc n) kind (last ∷ parts) h (inl e) = absurd (omega (arith, e))
next_kind (suc n) kind (last ∷ parts) h (inr e) =
    ap (λ b. if b then record last { end = last.end + suc n } ∷ parts
    else part_from last.end kind (suc n) ∷ last ∷ parts) (ne_eqb last.kind kind e)

-- ---- What a step keeps.

end_by : (b : Bool) (n kind : ℕ) (last : FdPart) (parts : List FdPart)
    → (last_of (if b then record last { end = last.end + suc n } ∷ parts
    else part_from last.end kind (suc n) ∷ last ∷ parts)).end ≡ last.end + suc n
end_by true n kind last parts = refl
end_by false n kind last parts = refl

-- the last part ends after the bytes
end_of : (len kind : ℕ) (parts : List FdPart)
    → (last_of (with_bytes len kind parts)).end ≡ (last_of parts).end + len
end_of zero kind parts = omega arith
end_of (suc n) kind [] = refl
end_of (suc n) kind (last ∷ parts) = end_by (last.kind == kind) n kind last parts

few_by : (b : Bool) (n kind : ℕ) (last : FdPart) (parts : List FdPart)
    → length (if b then record last { end = last.end + suc n } ∷ parts
    else part_from last.end kind (suc n) ∷ last ∷ parts) ≤ length (last ∷ parts) + suc n
few_by true n kind last parts = omega arith
few_by false n kind last parts = omega arith

-- there is at most a part for each byte
few : (len kind : ℕ) (parts : List FdPart) → length (with_bytes len kind parts) ≤ length parts + len
few zero kind parts = omega arith
few (suc n) kind [] = omega arith
few (suc n) kind (last ∷ parts) = few_by (last.kind == kind) n kind last parts

-- ---- The array.

-- the parts but the last one are at the start of the array, if all are
before_last : (array : List FdPart) (last : FdPart) (parts : List FdPart)
    → take (length parts + 1) array ≡ reverse (last ∷ parts) → take (length parts) array ≡ reverse parts
before_last array last parts e =
    let more : suc (length parts) ≡ length parts + 1 = omega arith in
    sym (take_take array (length parts)) ∙ ap (λ n. take (length parts) (take n array)) more
    ∙ ap (take (length parts)) (e ∙ reverse_onto parts last [])
    ∙ ap (λ n. take n (reverse parts ++ (last ∷ []))) (sym (length-reverse parts))
    ∙ take-append_seam (reverse parts) (last ∷ [])
  where
    take_take : (l : List FdPart) (n : ℕ) → take n (take (suc n) l) ≡ take n l
    take_take l zero = refl
    take_take [] (suc n) = refl
    take_take (x ∷ l) (suc n) = ap (λ m. x ∷ m) (take_take l n)

module _ (array : List FdPart) where
  -- the same of the parts after bytes, by those before
  kept_zero : (parts : List FdPart) (last : FdPart) (others : List FdPart)
      → (length parts ≤ length array → take (length parts) array ≡ reverse parts) → length parts ≤ length array
      → parts ≡ last ∷ others → take (length others) array ≡ reverse others
  kept_zero parts last others listed fits e =
      let first : length parts ≡ length others + 1 = ap length e ∙ omega arith in
      before_last array last others
      (subst (λ n. take n array ≡ reverse (last ∷ others)) first (listed fits ∙ ap reverse e))

  kept_by : (b : Bool) (n kind : ℕ) (p : FdPart) (parts : List FdPart) (last : FdPart) (others : List FdPart)
      → (length (p ∷ parts) ≤ length array → take (length (p ∷ parts)) array ≡ reverse (p ∷ parts))
      → length (last ∷ others) ≤ length array
      → (if b then record p { end = p.end + suc n } ∷ parts else part_from p.end kind (suc n) ∷ p ∷ parts)
      ≡ last ∷ others → take (length others) array ≡ reverse others
  kept_by true n kind p parts last others listed fits e =
      let same : parts ≡ others = ap (drop 1) e in
      let fits' : length (p ∷ parts) ≤ length array = omega (arith, ap length e, fits) in
      subst (λ l. take (length l) array ≡ reverse l) same (kept_zero (p ∷ parts) p parts listed fits' refl)
  kept_by false n kind p parts last others listed fits e =
      let same : p ∷ parts ≡ others = ap (drop 1) e in
      let fits' : length (p ∷ parts) ≤ length array = omega (arith, ap length e, fits) in
      subst (λ l. take (length l) array ≡ reverse l) same (listed fits')

  kept : (len kind : ℕ) (parts : List FdPart) (last : FdPart) (others : List FdPart)
      → (length parts ≤ length array → take (length parts) array ≡ reverse parts)
      → length (last ∷ others) ≤ length array → with_bytes len kind parts ≡ last ∷ others
      → take (length others) array ≡ reverse others
  kept zero kind parts last others listed fits e =
      kept_zero parts last others listed (subst (λ l. length l ≤ length array) (sym e) fits) e
  kept (suc n) kind [] last others listed fits e =
      subst (λ l. take (length l) array ≡ reverse l) (ap (drop 1) e) refl
  kept (suc n) kind (p ∷ parts) last others listed fits e =
      kept_by (p.kind == kind) n kind p parts last others listed fits e

  -- the last part is set after the others
  set_after : (array' : List FdPart) (parts : List FdPart) (count : ℕ) (last : FdPart)
      → count ≡ length parts → last ≡ last_of parts
      → ((q : FdPart) (others : List FdPart) → parts ≡ q ∷ others → take (length others) array ≡ reverse others)
      → (0 < count → count ≤ length array → array' ≡ set array (count - 1) last) → count ≤ length array
      → take count array' ≡ reverse parts
  set_after array' [] count last number is others written fits = ap (λ n. take n array') number
  set_after array' (q ∷ parts) count last number is others written fits =
      let index : count - 1 ≡ length parts = omega (arith, number) in
      let all : count ≡ length parts + 1 = number ∙ omega arith in
      ap (λ n. take n array') all
      ∙ ap (take (length parts + 1)) (written (omega (arith, number)) fits ∙ (λ i. set array (index i) (is i)))
      ∙ take_more_set array (length parts) q (omega (arith, all, fits))
      ∙ ap (λ l. l ++ (q ∷ [])) (others q parts refl)
      ∙ sym (reverse_onto parts q [])

-- ---- A piece more.

text_of_piece : (piece : Piece) → pieces_text (piece ∷ []) ≡ piece.text
text_of_piece piece = flat_map-cons (λ (p : Piece). p.text) piece [] ∙ append-nil piece.text

pub text_more : (pieces : List Piece) (piece : Piece)
    → length (pieces_text (pieces ++ (piece ∷ []))) ≡ length (pieces_text pieces) + length piece.text
text_more pieces piece =
    ap length (flat_map-append (λ (p : Piece). p.text) pieces (piece ∷ [])
    ∙ ap (λ l. pieces_text pieces ++ l) (text_of_piece piece))
    ∙ length-append (pieces_text pieces) piece.text

parts_more : (pieces : List Piece) (piece : Piece)
    → parts_down (pieces ++ (piece ∷ [])) ≡ with_piece (parts_down pieces) piece
parts_more pieces piece = fold-append with_piece [] pieces (piece ∷ [])

-- what a list has taken after a piece more
pub taken : (name : ℕ) (array array' : List FdPart) (count count' : ℕ) (last last' : FdPart) (piece : Piece)
    → ((parts : List FdPart) → count ≡ length parts → last ≡ last_of parts → count ≤ last.end
    → last.end + length piece.text < 2 ^ 64
    → (count' ≡ length (with_bytes (length piece.text) (kind_code piece.kind) parts))
    × (last' ≡ last_of (with_bytes (length piece.text) (kind_code piece.kind) parts)))
    → length array' ≡ length array
    → (0 < count' → count' ≤ length array → array' ≡ set array (count' - 1) last') → (all : List Piece)
    → HasTaken name array count last all → HasTaken name array' count' last' (all ++ (piece ∷ []))
taken name array array' count count' last last' piece step same written [] h = absurd h
taken name array array' count count' last last' piece step same written (which ∷ pieces) (is, list) =
    (is ∙ ap (λ n. name ∷ n ∷ []) (sym same), λ bound. grown (bounded bound) (list (below bound)))
  where
    len : ℕ
    len = length piece.text

    below : length (pieces_text (pieces ++ (piece ∷ []))) < 2 ^ 64 → length (pieces_text pieces) < 2 ^ 64
    below bound = omega (arith, text_more pieces piece, bound)

    bounded : length (pieces_text (pieces ++ (piece ∷ []))) < 2 ^ 64 → length (pieces_text pieces) + len < 2 ^ 64
    bounded bound = omega (arith, text_more pieces piece, bound)

    grown : length (pieces_text pieces) + len < 2 ^ 64 → IsPartList array count last pieces
        → IsPartList array' count' last' (pieces ++ (piece ∷ []))
    grown bound list =
        let parts = parts_down pieces in
        let more = with_bytes len (kind_code piece.kind) parts in
        let (number, last_is) = step parts list.number list.last_is list.few (omega (arith, bound, list.end)) in
        let down : parts_down (pieces ++ (piece ∷ [])) ≡ more = parts_more pieces piece in
        let end : last'.end ≡ last.end + len =
        ap (λ (p : FdPart). p.end) last_is ∙ end_of len (kind_code piece.kind) parts
        ∙ ap (λ (p : FdPart). p.end + len) (sym list.last_is) in
        let listed : length parts ≤ length array → take (length parts) array ≡ reverse parts =
        subst (λ n. n ≤ length array → take n array ≡ reverse parts) list.number list.listed in record {
          number = number ∙ ap length (sym down);
          last_is = last_is ∙ ap last_of (sym down);
          end = end ∙ ap (λ n. n + len) list.end ∙ sym (text_more pieces piece);
          few = omega (arith, number, few len (kind_code piece.kind) parts, list.number, list.few, end);
          listed = λ fits.
              let fits' : count' ≤ length array = omega (arith, same, fits) in
              set_after array array' more count' last' number last_is
              (λ q others e. kept array len (kind_code piece.kind) parts q others listed
              (subst (λ l. length l ≤ length array) e (omega (arith, number, fits'))) e)
              written fits' ∙ ap reverse (sym down);
        }

-- ---- All pieces.

-- what holds after a success holds, where a failure is none
pub no_failure : {P : Type 0} (r : Result Unit SinkFault) → OnOk r P → OnErr r (false ≡ true) → P
no_failure (Ok _) ok err = ok
no_failure (Err _) ok err = absurd (cc)

-- a list that began empty has the parts of all pieces that were put, in the same array
pub of_all : (name name' : ℕ) (array array' : List FdPart) (count count' : ℕ) (last last' : FdPart)
    (pieces : List Piece)
    → Puts (λ all. HasTaken name array count last all) (λ all. HasTaken name' array' count' last' all) pieces
    → count ≡ 0 → last ≡ no_part → length (pieces_text pieces) < 2 ^ 64
    → (name' ≡ name) × (length array' ≡ length array) × IsPartList array' count' last' pieces
of_all name name' array array' count count' last last' pieces puts none first bound =
    let which : Piece = record { kind = PartKind.Literal; text = name ∷ length array ∷ [] } in
    let empty : IsPartList array count last [] = record {
      number = none;
      last_is = first;
      end = ap (λ (p : FdPart). p.end) first;
      few = omega (arith, none);
      listed = λ fits. ap (λ n. take n array) none;
    } in
    let (is, list) = puts.grown (which ∷ []) (refl, λ b. empty) in
    (sym (ap (λ l. get_or l 0 0) is), sym (ap (λ l. get_or l 1 0) is), list bound)

pub counted : (array : List FdPart) (count : ℕ) (last : FdPart) (pieces : List Piece)
    → IsPartList array count last pieces → count ≡ length (parts_of pieces)
counted array count last pieces list = list.number ∙ sym (length-reverse (parts_down pieces))

-- an array of their number has exactly the parts
pub filled : (array : List FdPart) (count : ℕ) (last : FdPart) (pieces : List Piece)
    → IsPartList array count last pieces → length array ≡ length (parts_of pieces) → array ≡ parts_of pieces
filled array count last pieces list fits =
    let all : count ≡ length array = counted array count last pieces list ∙ sym fits in
    sym (take_all count array (omega (arith, all))) ∙ list.listed (omega (arith, all))
