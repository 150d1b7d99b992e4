use Rattle.hosts.specs.Tallies.{numbers}
use Rattle.hosts.proofs.Noting.{kept_more}
use Rattle.hosts.proofs.reporters.KeepingReporterReporter.report.Goals as goal

pub returns-then-self : goal.returns-then-self
returns-then-self c =
    let s = c.args.self.now in
    kept_more (numbers s.counts) (numbers c.raise.new.self) s.places.now s.used c.args.report c.if-self.true c.raise.ensures
