use Rattle.std.proofs.Common.{ap, ◌∙◌, arith, rules}
use Rattle.std.specs.List.{between, sum_by}
use Rattle.volume.specs.declared.entry.Entry.{Entry}
use Rattle.edits.specs.Entries.{empty_of}
use Rattle.edits.specs.Edits.{run_start, run_end}
use Rattle.slots.specs.Slots.{slot_entries}
use Rattle.slots.proofs.Blocks.{blocks_sum, blocks_few}
use Rattle.slots.proofs.Splices.{emptied_is}
use Rattle.slots.proofs.join.make_empty.Goals as goal

pub blocks_of-blocks-requires : goal.blocks_of-blocks-requires
blocks_of-blocks-requires c = search (rules, blocks_few)

pub returns-clause-entries : goal.returns-clause-entries
returns-clause-entries c =
    let from = c.run_start-from.result in
    let to = c.run_end-to.result in
    let i = c.args.i in
    let s = c.args.s.now in
    let same = c.all_entries-all.ensures.entries in
    c.close_up.ensures
    ∙ emptied_is s.entries s.count i from to c.empty_of.result (omega (arith, s.few)) (omega arith) (omega arith)
    (c.run_start-from.ensures.start ∙ ap (λ es. run_start es i) same)
    (c.run_end-to.ensures.end ∙ ap (λ es. run_end es i) same)
    (c.empty_of.ensures
    ∙ ap empty_of
    (c.blocks_of-blocks.ensures
    ∙ ap (λ es. sum_by (λ (e : Entry). e.length) (between from to es)) same
    ∙ blocks_sum (between from to (slot_entries s))))
