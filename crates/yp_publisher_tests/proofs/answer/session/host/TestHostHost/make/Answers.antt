use Rattle.yp_publisher_tests.proofs.Making.{uncounted}
use Rattle.yp_publisher_tests.proofs.answer.session.host.TestHostHost.make.Goals as goal

pub returns-after-self : goal.returns-after-self
returns-after-self c = record {
  made = tt;
  cause = c.make_next-stat.ensures.caused;
  catalogue = c.make_next-stat.ensures.catalogue;
  grown = c.make_next-stat.ensures.grown;
  counted = uncounted _ c.make_next-stat.result c.make_next-stat.ensures.counted;
}
