use Rattle.std.proofs.Common.{rules, ◌≡◌, ◌-◌, length, take, drop, take_all, length-drop, arith}
use Rattle.counted_io.proofs.Pieces.{appends_both}
use Rattle.counted_io.proofs.whole.write_whole.Goals as goal

pub loop-at-preserved : goal.loop-at-preserved
loop-at-preserved g c =
    let rest : take (length c.args.text.now - c.loop-at.at) (drop c.loop-at.at c.args.text.now) ≡ drop c.loop-at.at c.args.text.now =
    take_all _ _ (simp length-drop (omega arith)) in
    record {
      fits = search rules;
      put = appends_both (g.W.CountedWrite.contents c.args.device.now) _ _ c.args.text.now c.loop-at.at c.in-Ok.n c.loop-at.invariant.put
          (rw rest at c.in-Ok.ensures.bytes);
      calls = search rules;
    }

pub returns-in-Err : goal.returns-in-Err
returns-in-Err g c = search rules

pub returns-in-Err-2 : goal.returns-in-Err-2
returns-in-Err-2 g c = search rules
