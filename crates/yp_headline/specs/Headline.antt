-- The headline: what the whole program does, over the bytes that go in and out.
use Rattle.std.specs.Prelude.{◌≡◌, ◌≢◌, ◌⊎◌, ℕ, List, [], Some}
use Rattle.std.specs.List.{AllByRecursion}
use Rattle.yp_io.specs.Disk.{IsImage}
use Rattle.yp_board.specs.Logs.{Log, shown}
use Rattle.yp_publisher.specs.Rising.{IsRisingLog}
use Rattle.yp_headline.specs.World.{World}
use Rattle.yp_headline.specs.Serving.{IsServed, AreServed}
use Rattle.yp_headline.specs.Publishing.{IsAmong, IsPublishedLog, OfFile, StandsBy, AreLeft}
use Rattle.yp_headline.specs.Sources.{Succeeded}
use Rattle.yp_headline.specs.Calling.{IsCalledBack, IsAskedFor}
use Rattle.yp_headline.specs.Storing.{stood_for}

-- Replies. There is one log of published versions, in which the orders of each map rise. Each connection was answered
-- in turn on fronts of it that never go back, from what there was at first; and so was each inbox, but for late makes.
pub record Replies (world : World) (begun log : Log) : Type 0 where
  pub published : IsPublishedLog world begun log
  pub rises : IsRisingLog log
  pub connections : AllByRecursion (IsServed world.catalogue begun log) world.connections
  pub datagrams : AllByRecursion (AreServed world.catalogue begun log) world.datagrams

-- Crashes. Each moment of a map's file has a front of the log, and these never go back. Whatever a crash leaves then
-- stands for what the front shows of the map, or for a version that was new behind it; or nothing was published yet,
-- and it might have been left at first. At the end it might have been left at first, or stands for what the whole log
-- shows, or for one that was new behind it. Of a map that was told as done it stands for what the log shows alone.
pub record Crashes (world : World) (begun log : Log) : Type 0 where
  pub published : IsPublishedLog world begun log
  pub any_moment : (number : ℕ)
      → OfFile number world.stores (λ file. AreLeft world number file.first file.moments begun log)
  pub at_end : (number : ℕ) → OfFile number world.stores (λ file. (image : List ℕ) → IsImage file.last image
      → IsImage file.first image ⊎ StandsBy world number log image)
  pub stored : (number : ℕ) → IsAmong world.done number → OfFile number world.stores (λ file. (image : List ℕ)
      → IsImage file.last image → stood_for image ≡ Some (shown number log))

-- Transfers. Each that was told as done is of a map whose version a server gave, over a stream or in datagrams: the log
-- shows it. Where that came of a source whose own log rises, it is the version that the source showed throughout. What
-- was posted calls back transfers that a connection asked for, each of them once at most.
pub record Transfers (world : World) (begun log : Log) : Type 0 where
  pub done : (number : ℕ) → IsAmong world.done number → Succeeded world log number
  pub called_back : world.posted ≢ [] → IsCalledBack world begun log

-- Call backs. Each letter that was posted calls back a transfer that a call took, which came in a stream or a datagram.
abbrev pub CallBacks : World → (begun log : Log) → Type 0
CallBacks world begun log = AllByRecursion (IsAskedFor world begun log) world.posted
