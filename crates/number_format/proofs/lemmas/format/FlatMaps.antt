-- What is made of each element of a list, one after another.
use Rattle.std.proofs.{Common.{◌≡◌, ℕ, ◌+◌, ◌<◌, List, [], ◌∷◌, ◌++◌, length, get_or, take, drop, sym, ◌∙◌, ap, append_assoc, append-nil, take-append-drop}, lemmas.{List.{take_more, Concat.flat_map-cons}, Grind.flat_map-append}}
use Rattle.std.specs.Prelude.{flat_map}

-- of one element more
pub flat_map-more : {A B : Type 0} (f : A → List B) (xs : List A) (i : ℕ) (x : A) → i < length xs → x ≡ get_or xs i x
    → flat_map f (take (i + 1) xs) ≡ flat_map f (take i xs) ++ f x
flat_map-more f xs i x h e =
    ap (flat_map f) (take_more xs i x h)
    ∙ flat_map-append f (take i xs) (get_or xs i x ∷ [])
    ∙ ap (λ l. flat_map f (take i xs) ++ l)
    (flat_map-cons f (get_or xs i x) [] ∙ append-nil (f (get_or xs i x)) ∙ ap f (sym e))

-- of the elements before one, of that one, and of those after it
pub flat_map-split : {A B : Type 0} (f : A → List B) (xs : List A) (i : ℕ) (x : A) → i < length xs → x ≡ get_or xs i x
    → flat_map f (take i xs) ++ (f x ++ flat_map f (drop (i + 1) xs)) ≡ flat_map f xs
flat_map-split f xs i x h e =
    sym (append_assoc (flat_map f (take i xs)) (f x) (flat_map f (drop (i + 1) xs)))
    ∙ ap (λ l. l ++ flat_map f (drop (i + 1) xs)) (sym (flat_map-more f xs i x h e))
    ∙ sym (flat_map-append f (take (i + 1) xs) (drop (i + 1) xs))
    ∙ ap (flat_map f) (take-append-drop (i + 1) xs)
