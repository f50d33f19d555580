use Rattle.logged_pages.proofs.CarryingOut.{carried, carry_on, idle, on_disk, still, up_to_date}
use Rattle.logged_pages.proofs.logged.LoggedPages.carry_out.Goals as goal

pub returns-clause-carried : goal.returns-clause-carried
returns-clause-carried g c = carried g.D.Disk c.args.self.now c.append.new.self c.carry.new.pages c.args.disk.now c.carry.new.disk c.carry.result c.next_lsn-first.result (g.R.Records.list c.args.records.now) c.append.ensures.appended c.append.ensures.cache c.next_lsn-first.ensures c.carry.ensures.puts

pub returns-clause-up_to_date : goal.returns-clause-up_to_date
returns-clause-up_to_date g c = up_to_date g.D.Disk c.args.self.now c.append.new.self c.carry.new.pages c.args.disk.now c.carry.new.disk c.carry.result c.next_lsn-first.result (g.R.Records.list c.args.records.now) c.append.ensures.appended c.append.ensures.cache c.next_lsn-first.ensures c.carry.ensures.puts

pub returns-clause-carry : goal.returns-clause-carry
returns-clause-carry g c = carry_on g.D.Disk c.args.self.now c.append.new.self c.carry.new.pages c.args.disk.now c.carry.new.disk c.carry.result c.next_lsn-first.result (g.R.Records.list c.args.records.now) c.append.ensures.appended c.append.ensures.cache c.next_lsn-first.ensures c.carry.ensures.puts

pub returns-clause-still : goal.returns-clause-still
returns-clause-still g c = still g.D.Disk c.args.self.now c.append.new.self c.carry.new.pages c.args.disk.now c.carry.new.disk c.carry.result c.next_lsn-first.result (g.R.Records.list c.args.records.now) c.append.ensures.appended c.append.ensures.cache c.next_lsn-first.ensures c.carry.ensures.puts

pub returns-clause-idle : goal.returns-clause-idle
returns-clause-idle g c = idle g.D.Disk c.args.self.now c.append.new.self c.carry.new.pages c.args.disk.now c.carry.new.disk c.carry.result c.next_lsn-first.result (g.R.Records.list c.args.records.now) c.append.ensures.appended c.append.ensures.cache c.next_lsn-first.ensures c.carry.ensures.puts

pub returns-clause-on_disk : goal.returns-clause-on_disk
returns-clause-on_disk g c = on_disk g.D.Disk c.args.self.now c.append.new.self c.carry.new.pages c.args.disk.now c.carry.new.disk c.carry.result c.next_lsn-first.result (g.R.Records.list c.args.records.now) c.append.ensures.appended c.append.ensures.cache c.next_lsn-first.ensures c.carry.ensures.puts
