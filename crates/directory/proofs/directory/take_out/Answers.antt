use Rattle.std.proofs.Common.{◌<◌, ◌-◌, suc, List, length, take, set, arith, append_assoc, length-set, length-take}
use Rattle.std.proofs.lemmas.List.{take-set, drop-set-lt, get_or-set_same}
use Rattle.std.proofs.lemmas.Slice.{put_mid-rotated}
use Rattle.directory.proofs.directory.take_out.Goals as goal

pub returns : goal.returns
returns g c =
    let i = c.args.at in
    let b = c.args.blank in
    let used : List g.row.R.Denot = take c.args.count c.args.places.now in
    let long = length-take c.args.count c.args.places.now in
    let same = length-set used i b in
    let room : i < length used = omega arith in
    let turned = put_mid-rotated i (length (set used i b) - i) (set used i b) c.rotate_left.new.self b (omega arith) (omega arith) c.rotate_left.ensures.after in
    rw (turned, take-set, drop-set-lt (suc i) used i b (omega arith), get_or-set_same used i b b room, append_assoc)
