use Rattle.layer_board.proofs.laws.tables_show_right_states.Goals as goal

pub returns : goal.returns
returns c = λ b s k. k.right
