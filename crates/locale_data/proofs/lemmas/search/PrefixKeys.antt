-- The keys of parts of a tag: where one part is a prefix of another, their keys are near.
use Rattle.std.proofs.{Common.{◌≡◌, ℕ, zero, suc, ◌+◌, ◌-◌, ◌*◌, ◌%◌, ◌^◌, ◌<◌, ◌≤◌, ◌⊎◌, nat_lt, Bool, true, false, cond, List, length, length-set, set, replicate, slice_index, take, get_or, refl, ap, ap₂, sym, ◌∙◌, subst, inl, inr, lit≤, mod-eq_of_lt, mul_assoc, arith}, Math.Nat.{pow-le-pow_right, mul-le-mul_right, mul_comm}, lemmas.{Bool.{cases_lt, Decides.nat_tests}, List.{ext_get_or, length-take, get_or-set_same, get_or-set_other, get_or-map, get_or-take, get_or-replicate, length-map, length-take-le}, Nat.pow-add}}
use Rattle.std.specs.Int.{from_be_bytes, w128}
use Rattle.locale_data.specs.{Tag.{tag_byte, compared}, SortedRows.{padded_byte, IsPadded, key_of_first, key}}

plus_one : (n p : ℕ) → (n + 1) * p ≡ n * p + p
plus_one n p = grind arith

-- ---- One byte more.

power_more : (k : ℕ) → 2 ^ (8 * suc k) ≡ 2 ^ (8 * k) * 256
power_more k = let e : 8 * suc k ≡ 8 * k + 8 = omega arith in ap (λ i. 2 ^ i) e ∙ pow-add 2 (8 * k) 8

fits : (n b k : ℕ) → n < 2 ^ (8 * k) → b < 256 → n * 256 + b < 2 ^ (8 * suc k)
fits n b k below byte =
    let more : suc n * 256 ≤ 2 ^ (8 * k) * 256 = mul-le-mul_right 256 below in
    subst (λ m. n * 256 + b < m) (sym (power_more k)) (omega arith)

one_more : (text : List ℕ) (k : ℕ) → k < 16 → padded_byte text k < 256 → key_of_first text k < 2 ^ (8 * k)
    → key_of_first text (suc k) ≡ key_of_first text k * 256 + padded_byte text k
one_more text k inside byte below =
    let n = key_of_first text k in
    let b = padded_byte text k in
    let fit = fits n b k below byte in
    let low : 8 * suc k ≤ 128 = omega arith in
    let cap : 2 ^ (8 * suc k) ≤ 2 ^ 128 = pow-le-pow_right (lit≤ tt) low in
    let inner : n * 256 % 2 ^ 128 ≡ n * 256 = mod-eq_of_lt (omega arith) in
    let outer : (n * 256 + b) % 2 ^ 128 ≡ n * 256 + b = mod-eq_of_lt (omega arith) in
    ap (λ m. (m + b) % 2 ^ 128) inner ∙ outer

same_first : (s t : List ℕ) (k : ℕ) → ((j : ℕ) → j < k → padded_byte s j ≡ padded_byte t j)
    → key_of_first s k ≡ key_of_first t k
same_first s t zero same = refl
same_first s t (suc k) same =
    ap₂ (λ n b. (n * 256 % 2 ^ 128 + b) % 2 ^ 128) (same_first s t k (λ j lt. same j (omega arith)))
    (same k (omega arith))

-- ---- The key of a text, by that of its first bytes.

module _ (text : List ℕ) (bytes : (j : ℕ) → padded_byte text j < 256) where
  first_below : (k : ℕ) → k ≤ 16 → key_of_first text k < 2 ^ (8 * k)
  first_below zero inside = lit≤ tt
  first_below (suc k) inside =
      let below = first_below k (omega arith) in
      subst (λ m. m < 2 ^ (8 * suc k)) (sym (one_more text k inside (bytes k) below))
      (fits (key_of_first text k) (padded_byte text k) k below (bytes k))

  next_of : (k : ℕ) → k < 16 → key_of_first text (suc k) ≡ key_of_first text k * 256 + padded_byte text k
  next_of k inside = one_more text k inside (bytes k) (first_below k (omega arith))

  at_least : (m k top : ℕ) → k + m ≡ top → top ≤ 16
      → key_of_first text k * 2 ^ (8 * m) ≤ key_of_first text top
  at_least zero k top e inside =
      let same : k ≡ top = omega arith in
      subst (λ i. key_of_first text k * 1 ≤ key_of_first text i) same (omega arith)
  at_least (suc m) k top e inside =
      let n = key_of_first text k in
      let p = 2 ^ (8 * m) in
      let rest = at_least m (suc k) top (omega arith) inside in
      let next = subst (λ x. x * p ≤ key_of_first text top) (next_of k (omega arith)) rest in
      let less : n * 256 * p ≤ (n * 256 + padded_byte text k) * p = mul-le-mul_right p (omega arith) in
      let whole : n * 2 ^ (8 * suc m) ≡ n * 256 * p =
      ap (λ x. n * x) (power_more m ∙ mul_comm p 256) ∙ sym (mul_assoc n 256 p) in
      omega arith

  at_most : (m k top : ℕ) → k + m ≡ top → top ≤ 16
      → key_of_first text top < (key_of_first text k + 1) * 2 ^ (8 * m)
  at_most zero k top e inside =
      let same : k ≡ top = omega arith in
      subst (λ i. key_of_first text i < (key_of_first text k + 1) * 1) same (omega arith)
  at_most (suc m) k top e inside =
      let n = key_of_first text k in
      let p = 2 ^ (8 * m) in
      let rest = at_most m (suc k) top (omega arith) inside in
      let next = subst (λ x. key_of_first text top < (x + 1) * p) (next_of k (omega arith)) rest in
      let small = bytes k in
      let more : (n * 256 + padded_byte text k + 1) * p ≤ (n + 1) * 256 * p = mul-le-mul_right p (omega arith) in
      let whole : (n + 1) * 2 ^ (8 * suc m) ≡ (n + 1) * 256 * p =
      ap (λ x. (n + 1) * x) (power_more m ∙ mul_comm p 256) ∙ sym (mul_assoc (n + 1) 256 p) in
      omega arith

-- texts with equal keys have equal bytes
same_bytes : (s t : List ℕ) → ((j : ℕ) → padded_byte s j < 256) → ((j : ℕ) → padded_byte t j < 256) → (k : ℕ) → k ≤ 16
    → key_of_first s k ≡ key_of_first t k → (j : ℕ) → j < k → padded_byte s j ≡ padded_byte t j
same_bytes s t s_bytes t_bytes zero inside e j lt = absurd (omega arith)
same_bytes s t s_bytes t_bytes (suc k) inside e j lt =
    let m = key_of_first s k in
    let n = key_of_first t k in
    let s_next = next_of s s_bytes k inside in
    let t_next = next_of t t_bytes k inside in
    let s_byte = s_bytes k in
    let t_byte = t_bytes k in
    let front : m ≡ n = omega arith in
    let last : padded_byte s k ≡ padded_byte t k = omega arith in
    elim (cases_lt j k) [
      | inl before ↦ same_bytes s t s_bytes t_bytes k (omega arith) front j before
      | inr ge ↦
          let here : j ≡ k = omega arith in
          ap (padded_byte s) here ∙ (last ∙ sym (ap (padded_byte t) here))
    ]

key_at_top : (text : List ℕ) (top : ℕ) → top ≡ 16 → key_of_first text top ≡ key text
unfolding key
key_at_top text top e = ap (key_of_first text) e

-- texts of one length, of at most 16 bytes, with equal keys are equal
pub same_text : (s t : List ℕ) → ((j : ℕ) → padded_byte s j < 256) → ((j : ℕ) → padded_byte t j < 256)
    → length s ≡ length t → length s ≤ 16 → key s ≡ key t → s ≡ t
same_text s t s_bytes t_bytes long short e = ext_get_or 0 s t long (λ j inside. at j inside)
  where
    at : (j : ℕ) → j < length s → get_or s j 0 ≡ get_or t j 0
    at j inside =
        let first = key_at_top s 16 refl ∙ (e ∙ sym (key_at_top t 16 refl)) in
        let same = same_bytes s t s_bytes t_bytes 16 (lit≤ tt) first j (omega arith) in
        let in_s : nat_lt j (length s) ≡ true = grind (arith, nat_tests) in
        let in_t : nat_lt j (length t) ≡ true = grind (arith, nat_tests) in
        sym (ap (λ b. cond b (get_or s j 0) 32) in_s) ∙ (same ∙ ap (λ b. cond b (get_or t j 0) 32) in_t)

-- the first bytes of a text are bytes
pub first_are_bytes : (text : List ℕ) → ((j : ℕ) → get_or text j 0 < 256) → (n j : ℕ)
    → padded_byte (take n text) j < 256
first_are_bytes text bytes n j = by (nat_lt j (length (take n text))) refl
  where
    by : (b : Bool) → nat_lt j (length (take n text)) ≡ b → cond b (get_or (take n text) j 0) 32 < 256
    by false e = lit≤ tt
    by true e =
        let inside : j < length (take n text) = grind (arith, nat_tests, e) in
        let below : j < n = omega (arith, length-take n text) in
        subst (λ b. b < 256) (sym (get_or-take n text j 0 below)) (bytes j)

-- the digits of a key to base 256
digits_16 : (f b : ℕ → ℕ) → f 0 ≡ 0 → ((k : ℕ) → k < 16 → f (suc k) ≡ f k * 256 + b k) → (p : List ℕ)
    → ((k : ℕ) → k < 16 → slice_index p k ≡ b k) → from_be_bytes w128 p ≡ f 16
digits_16 f b none more p is =
    omega (
      arith,
      none,
      more 0 (lit≤ tt),
      more 1 (lit≤ tt),
      more 2 (lit≤ tt),
      more 3 (lit≤ tt),
      more 4 (lit≤ tt),
      more 5 (lit≤ tt),
      more 6 (lit≤ tt),
      more 7 (lit≤ tt),
      more 8 (lit≤ tt),
      more 9 (lit≤ tt),
      more 10 (lit≤ tt),
      more 11 (lit≤ tt),
      more 12 (lit≤ tt),
      more 13 (lit≤ tt),
      more 14 (lit≤ tt),
      more 15 (lit≤ tt),
      is 0 (lit≤ tt),
      is 1 (lit≤ tt),
      is 2 (lit≤ tt),
      is 3 (lit≤ tt),
      is 4 (lit≤ tt),
      is 5 (lit≤ tt),
      is 6 (lit≤ tt),
      is 7 (lit≤ tt),
      is 8 (lit≤ tt),
      is 9 (lit≤ tt),
      is 10 (lit≤ tt),
      is 11 (lit≤ tt),
      is 12 (lit≤ tt),
      is 13 (lit≤ tt),
      is 14 (lit≤ tt),
      is 15 (lit≤ tt),
    )

pub padded_key : (padded text : List ℕ) → ((j : ℕ) → padded_byte text j < 256) → IsPadded padded text
    → from_be_bytes w128 padded ≡ key text
padded_key padded text bytes is =
    digits_16 (key_of_first text) (padded_byte text) refl (next_of text bytes) padded is.1
    ∙ key_at_top text 16 refl

-- ---- Parts of a tag.

tag_byte-small : (b : ℕ) → b < 256 → tag_byte b < 256
tag_byte-small b small = grind (arith, nat_tests)

-- the bytes of a text, as they are compared, are bytes
pub compared_are_bytes : (text : List ℕ) → ((j : ℕ) → get_or text j 0 < 256) → (j : ℕ)
    → padded_byte (compared text) j < 256
compared_are_bytes text bytes j = by (nat_lt j (length (compared text))) refl
  where
    by : (b : Bool) → nat_lt j (length (compared text)) ≡ b → cond b (get_or (compared text) j 0) 32 < 256
    by false e = lit≤ tt
    by true e =
        let long = length-map text tag_byte in
        let inside : j < length (compared text) = grind (arith, nat_tests, e) in
        let here = get_or-map tag_byte text j 0 0 (omega arith) in
        subst (λ b. b < 256) (sym here) (tag_byte-small (get_or text j 0) (bytes j))

module _ (tag : List ℕ) (bytes : (j : ℕ) → get_or tag j 0 < 256) where
  -- the first bytes of the tag, as they are compared
  abbrev pub first_bytes : ℕ → List ℕ
  first_bytes n = compared (take n tag)

  first_bytes-length : (n : ℕ) → n ≤ length tag → length (first_bytes n) ≡ n
  first_bytes-length n inside = length-map (take n tag) tag_byte ∙ length-take-le n tag inside

  byte_inside : (n j : ℕ) → n ≤ length tag → j < n → padded_byte (first_bytes n) j ≡ tag_byte (get_or tag j 0)
  byte_inside n j inside lt =
      let long = first_bytes-length n inside in
      let taken = length-take-le n tag inside in
      let in_text : nat_lt j (length (first_bytes n)) ≡ true = grind (arith, nat_tests) in
      ap (λ b. cond b (get_or (first_bytes n) j 0) 32) in_text
      ∙ (get_or-map tag_byte (take n tag) j 0 0 (omega arith) ∙ ap tag_byte (get_or-take n tag j 0 lt))

  byte_after : (n j : ℕ) → n ≤ length tag → n ≤ j → padded_byte (first_bytes n) j ≡ 32
  byte_after n j inside ge =
      let long = first_bytes-length n inside in
      let past : nat_lt j (length (first_bytes n)) ≡ false = grind (arith, nat_tests) in
      ap (λ b. cond b (get_or (first_bytes n) j 0) 32) past

  pub are_bytes : (n : ℕ) → n ≤ length tag → (j : ℕ) → padded_byte (first_bytes n) j < 256
  are_bytes n inside j = elim (cases_lt j n) [
    | inl lt ↦ subst (λ b. b < 256) (sym (byte_inside n j inside lt)) (tag_byte-small (get_or tag j 0) (bytes j))
    | inr ge ↦ subst (λ b. b < 256) (sym (byte_after n j inside ge)) (lit≤ tt)
  ]

  -- one byte more of the tag
  pub padded_more : (padded : List ℕ) (end : ℕ) → end < length tag → IsPadded padded (first_bytes end)
      → IsPadded (set padded end (tag_byte (get_or tag end 0))) (first_bytes (end + 1))
  padded_more padded end inside (long, is) = (
    length-set padded end (tag_byte (get_or tag end 0)) ∙ long,
    λ k short. at k short (cases_lt k end) (cases_lt end k),
  )
    where
      at : (k : ℕ) → k < 16 → (k < end) ⊎ (end ≤ k) → (end < k) ⊎ (k ≤ end)
          → get_or (set padded end (tag_byte (get_or tag end 0))) k 0 ≡ padded_byte (first_bytes (end + 1)) k
      at k short (inl lt) other =
          get_or-set_other padded end k (tag_byte (get_or tag end 0)) 0 (λ e. absurd (omega arith))
          ∙ (is k short ∙ (byte_inside end k (omega arith) lt ∙ sym (byte_inside (end + 1) k (omega arith)
          (omega arith))))
      at k short (inr ge) (inl gt) =
          get_or-set_other padded end k (tag_byte (get_or tag end 0)) 0 (λ e. absurd (omega arith))
          ∙ (is k short ∙ (byte_after end k (omega arith) (omega arith)
          ∙ sym (byte_after (end + 1) k (omega arith) (omega arith))))
      at k short (inr ge) (inr le) =
          let same : k ≡ end = omega arith in
          let within : end < length padded = omega (arith, long) in
          ap (λ i. get_or (set padded end (tag_byte (get_or tag end 0))) i 0) same
          ∙ (get_or-set_same padded end (tag_byte (get_or tag end 0)) 0 within
          ∙ (sym (byte_inside (end + 1) end (omega arith) (omega arith))
          ∙ ap (padded_byte (first_bytes (end + 1))) (sym same)))

  pub padded_none : IsPadded (replicate 16 32) (first_bytes 0)
  padded_none = (refl, λ k short. get_or-replicate 16 k 32 0 short ∙ sym (byte_after 0 k (omega arith) (omega arith)))

  module _ (end long : ℕ) (longer : end < long) (inside : long ≤ length tag) (short : end < 16) where
    same_key : key_of_first (first_bytes end) end ≡ key_of_first (first_bytes long) end
    same_key =
        same_first (first_bytes end) (first_bytes long) end (λ j lt.
        byte_inside end j (omega arith) lt ∙ sym (byte_inside long j inside (omega arith)))

    -- a part that goes on with a hyphen has a greater key
    pub part_below : tag_byte (get_or tag end 0) ≡ 45 → key (first_bytes end) < key (first_bytes long)
    part_below hyphen = ordered 16 refl
      where
        ordered : (top : ℕ) → top ≡ 16 → key (first_bytes end) < key (first_bytes long)
        ordered top e =
            let s = first_bytes end in
            let t = first_bytes long in
            let m = 15 - end in
            let p = 2 ^ (8 * m) in
            let less = at_most s (are_bytes end (omega arith)) m (suc end) top (omega arith) (omega arith) in
            let more = at_least t (are_bytes long inside) m (suc end) top (omega arith) (omega arith) in
            let s_next = next_of s (are_bytes end (omega arith)) end short in
            let t_next = next_of t (are_bytes long inside) end short in
            let s_byte = byte_after end end (omega arith) (omega arith) in
            let t_byte = byte_inside long end inside longer in
            let same = same_key in
            let step : key_of_first s (suc end) + 1 ≤ key_of_first t (suc end) = omega arith in
            let scaled : (key_of_first s (suc end) + 1) * p ≤ key_of_first t (suc end) * p =
            mul-le-mul_right p step in
            let s_top = key_at_top s top e in
            let t_top = key_at_top t top e in
            omega arith

    -- a longer part has a key that is less than 256 ^ (16 - end) above
    pub part_near : key (first_bytes long) < key (first_bytes end) + 2 ^ (8 * (16 - end))
    part_near = near 16 refl
      where
        near : (top : ℕ) → top ≡ 16 → key (first_bytes long) < key (first_bytes end) + 2 ^ (8 * (16 - end))
        near top e =
            let s = first_bytes end in
            let t = first_bytes long in
            let p = 2 ^ (8 * (16 - end)) in
            let n = key_of_first t end in
            let less = at_most t (are_bytes long inside) (16 - end) end top (omega arith) (omega arith) in
            let more = at_least s (are_bytes end (omega arith)) (16 - end) end top (omega arith) (omega arith) in
            let same = subst (λ x. x * p ≤ key_of_first s top) same_key more in
            let s_top = key_at_top s top e in
            let t_top = key_at_top t top e in
            let both : (n + 1) * p ≡ n * p + p = plus_one n p in
            omega arith
