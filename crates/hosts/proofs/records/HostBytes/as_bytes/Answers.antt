use Rattle.std.proofs.Common.{take, ap, arith}
use Rattle.hosts.specs.Records.{host_bytes}
use Rattle.hosts.proofs.records.HostBytes.as_bytes.Goals as goal

pub returns : goal.returns
unfolding host_bytes
returns c = ap (λ n. take n c.args.self.now.bytes) (omega arith)
