use Rattle.yp_host.proofs.Taking.{shows_of, standing_of, versions_of}
use Rattle.yp_host.proofs.connection.stock_of.Goals as goal

pub returns-clause-shows : goal.returns-clause-shows
returns-clause-shows g c =
    shows_of c.into_parts-disks.result.1 c.into_parts-publisher.result.0 _ c.into_parts-publisher.ensures.publisher c.into_parts-disks.ensures.board
    c.into_parts-disks.ensures.shown

pub returns-clause-standing : goal.returns-clause-standing
returns-clause-standing g c =
    standing_of _ c.into_parts-publisher.result.0 _ c.into_parts-publisher.ensures.publisher c.into_parts-disks.ensures.standing

pub returns-clause-versions : goal.returns-clause-versions
returns-clause-versions g c =
    versions_of c.into_parts-disks.result.1 c.into_parts-publisher.result.0 _ c.into_parts-publisher.ensures.publisher c.into_parts-disks.ensures.board
    c.rest.ensures.versions
