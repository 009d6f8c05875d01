use Rattle.std.proofs.{Common.{◌≡◌, Ok, IfOk, length, ap, ◌∙◌, rules}, lemmas.Iterator.{items_from_collect, Adapters.{YieldsList-from_skip, YieldsList-from_vec}}}
use Rattle.std.specs.{Iterator.Adapters.skip_source, Vec.Iter.{into_iter_items, into_iter_len}}
use Rattle.cli.specs.Arguments.{words_of}
use Rattle.cli.proofs.program.arguments.words.Goals as goal

pub returns-in-Ok-collect-clause-words : goal.returns-in-Ok-collect-clause-words
returns-in-Ok-collect-clause-words c =
    let is : c.args.arguments ≡ Ok c.in-Ok.arguments = search rules in
    let items = ap into_iter_items c.skip.ensures.source in
    let count : into_iter_len (skip_source c.skip.result) ≡ length (into_iter_items c.in-Ok.arguments) =
    ap into_iter_len c.skip.ensures.source ∙ c.in-Ok.arguments.rest.ok.0 in
    let found : c.collect.result ≡ Ok c.in-Ok-collect.words = search rules in
    let all : IfOk c.collect.result (λ words. words.items ≡ words_of c.in-Ok.arguments) =
    items_from_collect _ c.collect.ensures.ran
    (YieldsList-from_skip 1 (YieldsList-from_vec (into_iter_items c.in-Ok.arguments) items count)
    c.skip.ensures.count) in
    rw is (rw found at all)
