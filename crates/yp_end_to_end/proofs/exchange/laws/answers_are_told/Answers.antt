use Rattle.yp_end_to_end.proofs.exchange.Hearing.{Records}
use Rattle.yp_end_to_end.proofs.exchange.Answering.{answer_told, names_are_told, rows_are_told}
use Rattle.yp_end_to_end.proofs.exchange.laws.answers_are_told.Goals as goal

pub returns : goal.returns
returns c =
    let laws : Records = record { first = c.first_is_one.ensures; rest = c.rest_is_not_whole.ensures } in
    record {
      number = answer_told laws (λ n. n);
      truth = answer_told laws (λ b. b);
      bytes = answer_told laws (λ bytes. bytes.now);
      row = answer_told laws (λ row. (row.value.now, row.key.now));
      names = names_are_told laws;
      rows = rows_are_told laws;
    }
