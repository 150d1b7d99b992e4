use Rattle.hosts.proofs.Recording.{copied_bytes}
use Rattle.hosts.proofs.records.HostBytes.copied.Goals as goal

pub returns : goal.returns
returns c = copied_bytes c.args.bytes.now c.padded.result c.min.result c.min.ensures c.padded.ensures
