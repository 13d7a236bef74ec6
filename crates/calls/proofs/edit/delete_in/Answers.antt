use Rattle.std.proofs.Common.{◌≡◌, ℕ, List, Err, refl, ap, ◌∙◌, rules}
use Rattle.places.specs.Places.{file_place}
use Rattle.volume.specs.declared.fault.FileFault.TheVariants as fault
use Rattle.calls.proofs.Loading.{sound_bytes}
use Rattle.calls.proofs.Finding.{found_none, found_some}
use Rattle.calls.proofs.Editing.{plan_refused, plan_done, entry_there, segment_range, segment_good, delete_missing, delete-refused, deleted, deleted_blocks}
use Rattle.calls.proofs.edit.delete_in.Goals as goal

pub new-requires : goal.new-requires
new-requires g c = sound_bytes _ _ _ c.requires

pub returns-in_err-file : goal.returns-in_err-file
returns-in_err-file g c =
    let h = g.D.Device.held c.args.d.now in
    let none = found_none c.args.dir.now c.args.name (c.find_place.ensures.file ∙ ap (λ (z : List ℕ). file_place z c.args.name) c.new.ensures) c.in_err-file.ensures.ok_part in
    let r = plan_refused h.stack _ fault.NoSuchFile h.whole (delete_missing c.args.dir.now c.args.name none) in
    let e : c.from_residual.result ≡ Err fault.NoSuchFile = search rules in
    record { answer = e ∙ r.0; after = r.1; fixed = refl }

pub returns-then-file : goal.returns-then-file
returns-then-file g c =
    let h = g.D.Device.held c.args.d.now in
    let w = found_some _ _ c.in_ok-file.file (c.find_place.ensures.file ∙ ap (λ (z : List ℕ). file_place z c.args.name) c.new.ensures) c.in_ok-file.ensures.ok_part in
    let r = plan_refused h.stack _ _ h.whole (delete-refused _ _ _ c.requires c.args.name c.in_ok-file.file w c.if-file.true) in
    record { answer = r.0; after = r.1; fixed = refl }

pub empty_at-requires : goal.empty_at-requires
empty_at-requires g c =
    let w = found_some _ _ c.in_ok-file.file (c.find_place.ensures.file ∙ ap (λ (z : List ℕ). file_place z c.args.name) c.new.ensures) c.in_ok-file.ensures.ok_part in
    entry_there _ _ _ c.requires c.args.name c.in_ok-file.file w

pub store_from-requires : goal.store_from-requires
store_from-requires g c =
    let w = found_some _ _ c.in_ok-file.file (c.find_place.ensures.file ∙ ap (λ (z : List ℕ). file_place z c.args.name) c.new.ensures) c.in_ok-file.ensures.ok_part in
    let r = segment_range _ _ _ c.requires c.args.name c.in_ok-file.file w c.empty_at.new.dir c.empty_at.auto.dir in
    record { range = (r.1, (r.0, r.2)); known = segment_good _ _ _ c.requires c.args.name c.in_ok-file.file w }

pub returns : goal.returns
returns g c =
    let h = g.D.Device.held c.args.d.now in
    let w = found_some _ _ c.in_ok-file.file (c.find_place.ensures.file ∙ ap (λ (z : List ℕ). file_place z c.args.name) c.new.ensures) c.in_ok-file.ensures.ok_part in
    let p = c.store_from.ensures in
    let r = plan_done h.stack _ _ _ _ (deleted _ _ _ c.requires c.args.name c.in_ok-file.file w c.if-file.false) p.after
    (deleted_blocks _ _ _ c.requires c.args.name c.in_ok-file.file w c.empty_at.new.dir c.empty_at.ensures) in
    record { answer = r.0; after = r.1; fixed = p.fixed }
