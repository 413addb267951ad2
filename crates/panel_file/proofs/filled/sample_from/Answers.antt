-- One part more of a sample.
use Rattle.std.proofs.Common.{◌≡◌, ◌+◌, ◌*◌, ◌/◌, [], length, get_or, pos, ap, ◌∙◌, arith, rules}
use Rattle.std.proofs.lemmas.List.FromFn.{fill_by_all}
use Rattle.std.specs.Simd.{first_chunks}
use Rattle.panel_file.specs.Field.{part_at}
use Rattle.panel_file.proofs.Bytes.{chunk_part}
use Rattle.panel_file.proofs.Stored.{part_more}
use Rattle.panel_file.proofs.filled.sample_from.Goals as goal

pub loop-k-preserved : goal.loop-k-preserved
loop-k-preserved g c =
    let bytes = c.args.bytes.now in
    let k = c.loop-k.k in
    let long : length (g.K.Sample.parts c.loop-k.sample) ≡ g.K.Sample.PARTS = g.met.K.Sample.counted.2 c.loop-k.sample in
    let front : c.as_chunks.result.0.now ≡ first_chunks 4 (length bytes / 4) bytes = c.as_chunks.ensures.front in
    let front_len : length c.as_chunks.result.0.now ≡ length bytes / 4 = c.as_chunks.ensures.front_len in
    let read = c.part_of.ensures ∙ ap (λ l. part_at (get_or l k []) 0) front ∙ chunk_part (length bytes / 4) k bytes (omega arith) in
    part_more (λ j. part_at bytes (0 + j * 4)) (g.K.Sample.parts c.loop-k.sample) _ k c.part_of.result (search rules) c.replace_part-sample.ensures read (omega arith) c.loop-k.invariant

pub returns : goal.returns
returns g c =
    let bytes = c.args.bytes.now in
    let long : length (g.K.Sample.parts c.loop-k.sample) ≡ g.K.Sample.PARTS = g.met.K.Sample.counted.2 c.loop-k.sample in
    let front_len : length c.as_chunks.result.0.now ≡ length bytes / 4 = c.as_chunks.ensures.front_len in
    fill_by_all (λ j. part_at bytes (0 + j * 4)) (g.K.Sample.parts c.loop-k.sample) g.K.Sample.PARTS (pos 0) long (λ j low. c.loop-k.invariant j (omega arith))
