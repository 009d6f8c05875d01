use mir.Syntax.{w8}
use mir.Val.{Fits}
use Rattle.std.proofs.{Common.{ℕ, ◌<◌, ◌≤◌, ◌==◌, List, length, get_or, ap, sym, ◌∙◌, arith}, lemmas.List.{length-take, length-map}}
use Rattle.std.specs.List.{position_or_len}
use Rattle.locale_data.specs.{Rows.unpadded, Tag.{tag_byte, compared}}
use Rattle.locale_data.proofs.lemmas.search.{PrefixKeys.{first_are_bytes, compared_are_bytes}, Searches.named_by_length}
use Rattle.locale_data.proofs.search.is_named.Goals as goal

are_bytes_of : (text : List ℕ) → ((i : ℕ) → Fits w8 (get_or text i 0)) → (i : ℕ) → get_or text i 0 < 256
are_bytes_of text fit i = let h = fit i in omega arith

pub returns : goal.returns
returns c =
    let padded = c.args.padded.now in
    let text = c.args.text.now in
    let end = position_or_len (λ b. b == 32) padded in
    let short : length (unpadded padded) ≤ 16 = omega (arith, length-take end padded, c.requires.short) in
    ap (λ u. length u == length text) c.unpadded.ensures
    ∙ named_by_length (unpadded padded) (compared text) (length text) (sym (length-map text tag_byte))
    (first_are_bytes padded (are_bytes_of padded c.type_inv.padded) end)
    (compared_are_bytes text (are_bytes_of text c.type_inv.text)) short c.requires.key
